-- Words that ask for nothing that the program does.
use Rattle.std.proofs.Common.{◌≡◌, ◌≢◌, ◌∙◌, ◌<◌, ◌≤◌, ◌^◌, List, [], ◌∷◌, ℕ, IfOk, Result, Ok, Err, ap, arith, bytes_eq, codes, false, length, refl, subst, sym, true}
use Rattle.command_line.specs.CommandLines.{AreAddress, AreFileAndNumber, AreFileAndSize, AreFilesAndSize, AskFor, AskForNothing, AskNothingWith, AskWith, Words, given_by}
use Rattle.command_line.specs.Addresses.{IsAddress}
use Rattle.command_line.specs.Sizes.{IsSize}
use Rattle.client_core.specs.declared.peer.Address.{Address}
use Rattle.command_line.specs.declared.parsing.Subcommand.{Subcommand}
use Rattle.command_line.specs.declared.parsing.Subcommand.TheVariants.{Script, Version, Help, Ping, Format, Show, Held, Sessions, Copy, Serve}

same_test : (a b : List ℕ) → a ≡ b → bytes_eq a b ≡ bytes_eq b b
same_test a b e = ap (λ x. bytes_eq x b) e

-- two names that are not the same
apart : (a b : List ℕ) → bytes_eq b b ≡ true → bytes_eq a b ≡ false → a ≢ b
apart a b same off e = let t = same_test a b e in absurd (cc (t, same, off))

-- no file and size are among the arguments
abbrev pub NoSize : List (List ℕ) → Type 0
NoSize arguments = (file : List ℕ) (n : ℕ) → AreFileAndSize arguments file n → n < 2 ^ 64 → ⊥

-- nor two files and a size
abbrev pub NoSizeOfCopy : List (List ℕ) → Type 0
NoSizeOfCopy arguments = (file copy : List ℕ) (n : ℕ) → AreFilesAndSize arguments file copy n → n < 2 ^ 64 → ⊥

pub no_script : (given : Words) → given.arguments ≢ [] → AskNothingWith (codes "script") given
no_script given some Script asked = some asked.1
no_script given some Version asked = apart (codes "script") (codes "--version") refl refl asked.0
no_script given some Help asked = apart (codes "script") (codes "help") refl refl asked
no_script given some (Ping address) asked = apart (codes "script") (codes "ping") refl refl asked.0
no_script given some (Format file bytes is_sparse) asked = apart (codes "script") (codes "format") refl refl asked.0
no_script given some (Show file is_json) asked = apart (codes "script") (codes "show") refl refl asked.0
no_script given some (Held file is_json) asked = apart (codes "script") (codes "held") refl refl asked.0
no_script given some (Sessions file is_json) asked = apart (codes "script") (codes "sessions") refl refl asked.0
no_script given some (Copy file copy bytes is_sparse) asked = apart (codes "script") (codes "copy") refl refl asked.0
no_script given some (Serve file port origins threads memory new until_eof is_json) asked = apart (codes "script") (codes "serve") refl refl asked.0

pub no_version : (given : Words) → given.arguments ≢ [] → AskNothingWith (codes "--version") given
no_version given some Script asked = apart (codes "--version") (codes "script") refl refl asked.0
no_version given some Version asked = some asked.1
no_version given some Help asked = apart (codes "--version") (codes "help") refl refl asked
no_version given some (Ping address) asked = apart (codes "--version") (codes "ping") refl refl asked.0
no_version given some (Format file bytes is_sparse) asked = apart (codes "--version") (codes "format") refl refl asked.0
no_version given some (Show file is_json) asked = apart (codes "--version") (codes "show") refl refl asked.0
no_version given some (Held file is_json) asked = apart (codes "--version") (codes "held") refl refl asked.0
no_version given some (Sessions file is_json) asked = apart (codes "--version") (codes "sessions") refl refl asked.0
no_version given some (Copy file copy bytes is_sparse) asked = apart (codes "--version") (codes "copy") refl refl asked.0
no_version given some (Serve file port origins threads memory new until_eof is_json) asked = apart (codes "--version") (codes "serve") refl refl asked.0

pub no_ping : (given : Words) → ((address : Address) → AreAddress given.arguments address → ⊥) → AskNothingWith (codes "ping") given
no_ping given none Script asked = apart (codes "ping") (codes "script") refl refl asked.0
no_ping given none Version asked = apart (codes "ping") (codes "--version") refl refl asked.0
no_ping given none Help asked = apart (codes "ping") (codes "help") refl refl asked
no_ping given none (Ping address) asked = none address asked.1
no_ping given none (Format file bytes is_sparse) asked = apart (codes "ping") (codes "format") refl refl asked.0
no_ping given none (Show file is_json) asked = apart (codes "ping") (codes "show") refl refl asked.0
no_ping given none (Held file is_json) asked = apart (codes "ping") (codes "held") refl refl asked.0
no_ping given none (Sessions file is_json) asked = apart (codes "ping") (codes "sessions") refl refl asked.0
no_ping given none (Copy file copy bytes is_sparse) asked = apart (codes "ping") (codes "copy") refl refl asked.0
no_ping given none (Serve file port origins threads memory new until_eof is_json) asked = apart (codes "ping") (codes "serve") refl refl asked.0

pub no_format : (given : Words) → NoSize given.arguments → AskNothingWith (codes "format") given
no_format given none Script asked = apart (codes "format") (codes "script") refl refl asked.0
no_format given none Version asked = apart (codes "format") (codes "--version") refl refl asked.0
no_format given none Help asked = apart (codes "format") (codes "help") refl refl asked
no_format given none (Ping address) asked = apart (codes "format") (codes "ping") refl refl asked.0
no_format given none (Format file bytes is_sparse) asked = none file.now bytes asked.1 asked.2
no_format given none (Show file is_json) asked = apart (codes "format") (codes "show") refl refl asked.0
no_format given none (Held file is_json) asked = apart (codes "format") (codes "held") refl refl asked.0
no_format given none (Sessions file is_json) asked = apart (codes "format") (codes "sessions") refl refl asked.0
no_format given none (Copy file copy bytes is_sparse) asked = apart (codes "format") (codes "copy") refl refl asked.0
no_format given none (Serve file port origins threads memory new until_eof is_json) asked = apart (codes "format") (codes "serve") refl refl asked.0

not_one : (arguments : List (List ℕ)) (file : List ℕ) → length arguments ≢ 1 → arguments ≡ file ∷ [] → ⊥
not_one arguments file other is = other (ap length is)

pub no_show : (given : Words) → length given.arguments ≢ 1 → AskNothingWith (codes "show") given
no_show given other Script asked = apart (codes "show") (codes "script") refl refl asked.0
no_show given other Version asked = apart (codes "show") (codes "--version") refl refl asked.0
no_show given other Help asked = apart (codes "show") (codes "help") refl refl asked
no_show given other (Ping address) asked = apart (codes "show") (codes "ping") refl refl asked.0
no_show given other (Format file bytes is_sparse) asked = apart (codes "show") (codes "format") refl refl asked.0
no_show given other (Show file is_json) asked = not_one given.arguments file.now other asked.1
no_show given other (Held file is_json) asked = apart (codes "show") (codes "held") refl refl asked.0
no_show given other (Sessions file is_json) asked = apart (codes "show") (codes "sessions") refl refl asked.0
no_show given other (Copy file copy bytes is_sparse) asked = apart (codes "show") (codes "copy") refl refl asked.0
no_show given other (Serve file port origins threads memory new until_eof is_json) asked = apart (codes "show") (codes "serve") refl refl asked.0

pub no_held : (given : Words) → length given.arguments ≢ 1 → AskNothingWith (codes "held") given
no_held given other Script asked = apart (codes "held") (codes "script") refl refl asked.0
no_held given other Version asked = apart (codes "held") (codes "--version") refl refl asked.0
no_held given other Help asked = apart (codes "held") (codes "help") refl refl asked
no_held given other (Ping address) asked = apart (codes "held") (codes "ping") refl refl asked.0
no_held given other (Format file bytes is_sparse) asked = apart (codes "held") (codes "format") refl refl asked.0
no_held given other (Show file is_json) asked = apart (codes "held") (codes "show") refl refl asked.0
no_held given other (Held file is_json) asked = not_one given.arguments file.now other asked.1
no_held given other (Sessions file is_json) asked = apart (codes "held") (codes "sessions") refl refl asked.0
no_held given other (Copy file copy bytes is_sparse) asked = apart (codes "held") (codes "copy") refl refl asked.0
no_held given other (Serve file port origins threads memory new until_eof is_json) asked = apart (codes "held") (codes "serve") refl refl asked.0

pub no_sessions : (given : Words) → length given.arguments ≢ 1 → AskNothingWith (codes "sessions") given
no_sessions given other Script asked = apart (codes "sessions") (codes "script") refl refl asked.0
no_sessions given other Version asked = apart (codes "sessions") (codes "--version") refl refl asked.0
no_sessions given other Help asked = apart (codes "sessions") (codes "help") refl refl asked
no_sessions given other (Ping address) asked = apart (codes "sessions") (codes "ping") refl refl asked.0
no_sessions given other (Format file bytes is_sparse) asked = apart (codes "sessions") (codes "format") refl refl asked.0
no_sessions given other (Show file is_json) asked = apart (codes "sessions") (codes "show") refl refl asked.0
no_sessions given other (Held file is_json) asked = apart (codes "sessions") (codes "held") refl refl asked.0
no_sessions given other (Sessions file is_json) asked = not_one given.arguments file.now other asked.1
no_sessions given other (Copy file copy bytes is_sparse) asked = apart (codes "sessions") (codes "copy") refl refl asked.0
no_sessions given other (Serve file port origins threads memory new until_eof is_json) asked = apart (codes "sessions") (codes "serve") refl refl asked.0

pub no_copy : (given : Words) → NoSizeOfCopy given.arguments → AskNothingWith (codes "copy") given
no_copy given none Script asked = apart (codes "copy") (codes "script") refl refl asked.0
no_copy given none Version asked = apart (codes "copy") (codes "--version") refl refl asked.0
no_copy given none Help asked = apart (codes "copy") (codes "help") refl refl asked
no_copy given none (Ping address) asked = apart (codes "copy") (codes "ping") refl refl asked.0
no_copy given none (Format file bytes is_sparse) asked = apart (codes "copy") (codes "format") refl refl asked.0
no_copy given none (Show file is_json) asked = apart (codes "copy") (codes "show") refl refl asked.0
no_copy given none (Held file is_json) asked = apart (codes "copy") (codes "held") refl refl asked.0
no_copy given none (Sessions file is_json) asked = apart (codes "copy") (codes "sessions") refl refl asked.0
no_copy given none (Copy file copy bytes is_sparse) asked = none file.now copy.now bytes asked.1 asked.2
no_copy given none (Serve file port origins threads memory new until_eof is_json) asked = apart (codes "copy") (codes "serve") refl refl asked.0

pub no_serve : (given : Words) → ((file : List ℕ) (port : ℕ) → AreFileAndNumber given.arguments file port → 0 < port → port < 2 ^ 16 → ⊥) → AskNothingWith (codes "serve") given
no_serve given none Script asked = apart (codes "serve") (codes "script") refl refl asked.0
no_serve given none Version asked = apart (codes "serve") (codes "--version") refl refl asked.0
no_serve given none Help asked = apart (codes "serve") (codes "help") refl refl asked
no_serve given none (Ping address) asked = apart (codes "serve") (codes "ping") refl refl asked.0
no_serve given none (Format file bytes is_sparse) asked = apart (codes "serve") (codes "format") refl refl asked.0
no_serve given none (Show file is_json) asked = apart (codes "serve") (codes "show") refl refl asked.0
no_serve given none (Held file is_json) asked = apart (codes "serve") (codes "held") refl refl asked.0
no_serve given none (Sessions file is_json) asked = apart (codes "serve") (codes "sessions") refl refl asked.0
no_serve given none (Copy file copy bytes is_sparse) asked = apart (codes "serve") (codes "copy") refl refl asked.0
no_serve given none (Serve file port origins threads memory new until_eof is_json) asked = none file.now port asked.1 asked.2 asked.3

-- a word that names no subcommand asks for nothing
pub no_name : (name : List ℕ) (given : Words) → name ≢ codes "script" → name ≢ codes "--version" → name ≢ codes "help" → name ≢ codes "ping" → name ≢ codes "format" → name ≢ codes "show" → name ≢ codes "held" → name ≢ codes "sessions" → name ≢ codes "copy" → name ≢ codes "serve" → AskNothingWith name given
no_name name given s v l i f w h e y p Script asked = s asked.0
no_name name given s v l i f w h e y p Version asked = v asked.0
no_name name given s v l i f w h e y p Help asked = l asked
no_name name given s v l i f w h e y p (Ping address) asked = i asked.0
no_name name given s v l i f w h e y p (Format file bytes is_sparse) asked = f asked.0
no_name name given s v l i f w h e y p (Show file is_json) asked = w asked.0
no_name name given s v l i f w h e y p (Held file is_json) asked = h asked.0
no_name name given s v l i f w h e y p (Sessions file is_json) asked = e asked.0
no_name name given s v l i f w h e y p (Copy file copy bytes is_sparse) asked = y asked.0
no_name name given s v l i f w h e y p (Serve file port origins threads memory new until_eof is_json) asked = p asked.0

-- nothing is asked for by words of which that is so behind the program's name
pub nothing_named : (words rest : List (List ℕ)) (program name : List ℕ) → words ≡ program ∷ name ∷ rest → AskNothingWith name (given_by rest) → AskForNothing words
nothing_named words rest program name are none asked found =
    let e : program ∷ name ∷ rest ≡ found.0 ∷ found.1 ∷ found.2 = sym are ∙ found.3 in
    let n : found.1 ≡ name = cc in
    let r : found.2 ≡ rest = cc in none asked (subst (λ x. AskWith x (given_by rest) asked) n (subst (λ ws. AskWith found.1 (given_by ws) asked) r found.4))

-- nor by fewer words than two
pub too_few : (words : List (List ℕ)) → length words < 2 → AskForNothing words
too_few words few asked found = let l = ap length found.3 in omega (arith, l, few)

-- arguments that are not two are no file and size, and those that are not three are no two files and size
pub not_two : (arguments : List (List ℕ)) → length arguments ≢ 2 → NoSize arguments
not_two arguments other file n are below = other (ap length are.1)

pub not_three : (arguments : List (List ℕ)) → length arguments ≢ 3 → NoSizeOfCopy arguments
not_three arguments other file copy n are below = other (ap length are.1)

-- a size is the only one that the last argument means
pub no_size : (arguments : List (List ℕ)) (file text : List ℕ) → arguments ≡ file ∷ text ∷ [] → ((n : ℕ) → IsSize text n → 2 ^ 64 ≤ n) → NoSize arguments
no_size arguments file text are large other n found below =
    let e : file ∷ text ∷ [] ≡ other ∷ found.0 ∷ [] = sym are ∙ found.1 in
    let t : found.0 ≡ text = cc in
    let most = large n (subst (λ x. IsSize x n) t found.2) in omega (arith, most, below)

pub no_size_of_copy : (arguments : List (List ℕ)) (file copy text : List ℕ) → arguments ≡ file ∷ copy ∷ text ∷ [] → ((n : ℕ) → IsSize text n → 2 ^ 64 ≤ n) → NoSizeOfCopy arguments
no_size_of_copy arguments file copy text are large other another n found below =
    let e : file ∷ copy ∷ text ∷ [] ≡ other ∷ another ∷ found.0 ∷ [] = sym are ∙ found.1 in
    let t : found.0 ≡ text = cc in
    let most = large n (subst (λ x. IsSize x n) t found.2) in omega (arith, most, below)

-- an address is what the only argument means
pub no_address : (arguments : List (List ℕ)) (text : List ℕ) → arguments ≡ text ∷ [] → ((address : Address) → IsAddress text address → ⊥) → (address : Address) → AreAddress arguments address → ⊥
no_address arguments text are none address found =
    let e : text ∷ [] ≡ found.0 ∷ [] = sym are ∙ found.1 in
    let t : found.0 ≡ text = cc in none address (subst (λ x. IsAddress x address) t found.2)

pub not_one_address : (arguments : List (List ℕ)) → length arguments ≢ 1 → (address : Address) → AreAddress arguments address → ⊥
not_one_address arguments other address found = other (ap length found.1)

-- A subcommand is asked for by words behind the program's name.
pub asked_named : {E : Type 0} (r : Result Subcommand E) (words rest : List (List ℕ)) (program name : List ℕ) (given : Words)
    → words ≡ program ∷ name ∷ rest → given ≡ given_by rest → IfOk r (AskWith name given) → IfOk r (AskFor words)
asked_named (Ok asked) words rest program name given are is asks = (program, name, rest, are, subst (λ g. AskWith name g asked) is asks)
asked_named (Err e) words rest program name given are is asks = tt
