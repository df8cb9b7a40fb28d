use Rattle.std.specs.Prelude.{ℕ}
use Rattle.session_core.specs.declared.session.CloseCode.{CloseCode}
use Rattle.session_core.specs.declared.session.CloseCode.TheVariants.{NormalClosure, ProtocolError}

-- RFC 6455, section 7.4.1
abbrev pub code_of : CloseCode → ℕ
code_of NormalClosure = 1000
code_of ProtocolError = 1002
