use Rattle.std.specs.Prelude.{Option, Some, None}
use Rattle.command_core.specs.declared.fault.Fault.{Fault}
use Rattle.command_core.specs.declared.fault.Fault.TheVariants.{TransactionBegun, TransactionNotBegun, TransactionTooLarge, TooManyEntries}
use Rattle.tx_core.specs.declared.open_tx.TxFault.{TxFault}
use Rattle.tx_core.specs.declared.open_tx.TxFault.TheVariants.{Begun, NotBegun, TooLarge, TooMany, Memory}

-- the fault that a client is told; it isn't told that memory was refused
abbrev pub fault_of : TxFault → Option Fault
fault_of Begun = Some TransactionBegun
fault_of NotBegun = Some TransactionNotBegun
fault_of TooLarge = Some TransactionTooLarge
fault_of TooMany = Some TooManyEntries
fault_of (Memory refused) = None
