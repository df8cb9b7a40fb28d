-- What the words of a command line ask for.
use Rattle.std.specs.Prelude.{◌≡◌, ◌<◌, ◌≤◌, ◌^◌, List, [], ◌∷◌, ◌++◌, ◌||◌, ℕ, Bool, None, Option, Some, true, false, bytes_eq, codes, cond, drop, map, nat_eq}
use Rattle.std.specs.List.{list_all, starts_with}
use Rattle.client_core.specs.declared.peer.Address.{Address}
use Rattle.command_line.specs.Addresses.{IsAddress}
use Rattle.command_line.specs.Numbers.{IsNumber}
use Rattle.command_line.specs.Origins.{is_origin}
use Rattle.command_line.specs.Sizes.{IsSize}
use Rattle.command_line.specs.declared.parsing.Subcommand.{Subcommand}
use Rattle.command_line.specs.declared.parsing.Subcommand.TheVariants.{Script, Version, Help, Ping, Format, Show, Held, Sessions, Copy, Serve}
use Rattle.command_line.specs.declared.parsing.Given.{Given}
use Rattle.command_line.specs.declared.parsing.Place.{Place}
use Rattle.command_line.specs.declared.parsing.Place.TheVariants.{Free, Origin, Threads, Memory, Fresh, Behind}

-- the words are the program's name and this one
abbrev pub AskForAlone : List ℕ → List (List ℕ) → Type 0
AskForAlone word words = (name : List ℕ) × (words ≡ name ∷ word ∷ [])

-- the words are the program's name and `script`
abbrev pub AsksForScript : List (List ℕ) → Type 0
AsksForScript = AskForAlone (codes "script")

-- What the words after a subcommand give: its arguments, the origins, and the texts for the number of threads, for the memory of clients
-- and for the size of a new journal. Also whether a file is to be sparse, whether an object is to be printed, and whether a server ends with
-- standard input.
pub record Words : Type 0 where
  pub arguments : List (List ℕ)
  pub origins : List (List ℕ)
  pub threads : List (List ℕ)
  pub memory : List (List ℕ)
  pub fresh : List (List ℕ)
  pub is_sparse : Bool
  pub is_json : Bool
  pub until_eof : Bool

-- those that were taken so far
abbrev pub words_of : Given → Words
words_of given = record { arguments = map (λ word. word.now) given.arguments.items; origins = map (λ origin. origin.now) given.origins.items; threads = map (λ text. text.now) given.threads.items; memory = map (λ text. text.now) given.memory.items; fresh = map (λ text. text.now) given.fresh.items; is_sparse = given.is_sparse; is_json = given.is_json; until_eof = given.until_eof }

abbrev pub nothing_given : Words
nothing_given = record { arguments = []; origins = []; threads = []; memory = []; fresh = []; is_sparse = false; is_json = false; until_eof = false }

-- one argument more at the front, one origin, and one text for the number of threads, for the memory of clients, or for a new journal
abbrev pub with_argument : List ℕ → Words → Words
with_argument word given = record given { arguments = word ∷ given.arguments }

abbrev pub with_origin : List ℕ → Words → Words
with_origin origin given = record given { origins = origin ∷ given.origins }

abbrev pub with_threads : List ℕ → Words → Words
with_threads text given = record given { threads = text ∷ given.threads }

abbrev pub with_memory : List ℕ → Words → Words
with_memory text given = record given { memory = text ∷ given.memory }

abbrev pub with_fresh : List ℕ → Words → Words
with_fresh text given = record given { fresh = text ∷ given.fresh }

-- a word more that is an option with its value, written with `=`, or else an argument
abbrev pub with_written : List ℕ → Words → Words
with_written word given =
    cond (starts_with nat_eq word (codes "--origin=")) (with_origin (drop 9 word) given)
    (cond (starts_with nat_eq word (codes "--threads=")) (with_threads (drop 10 word) given)
    (cond (starts_with nat_eq word (codes "--memory=")) (with_memory (drop 9 word) given)
    (cond (starts_with nat_eq word (codes "--new=")) (with_fresh (drop 6 word) given)
    (with_argument word given))))

-- an option without a value
abbrev pub is_flag : List ℕ → Bool
is_flag word = bytes_eq word (codes "--sparse") || bytes_eq word (codes "--json") || bytes_eq word (codes "--until-eof")

-- What words give. Each is an argument, but for `--origin`, `--threads`, `--memory` and `--new` with the word after it, the same with `=` and
-- their value, `--sparse`, `--json`, `--until-eof`, and the first `--`. After that `--`, each is an argument whatever it is. Which of these a
-- subcommand takes is for `clap` to tell.
abbrev pub given_from : Place → List (List ℕ) → Words
given_from place [] = nothing_given
given_from Behind (word ∷ words) = with_argument word (given_from Behind words)
given_from Origin (word ∷ words) = with_origin word (given_from Free words)
given_from Threads (word ∷ words) = with_threads word (given_from Free words)
given_from Memory (word ∷ words) = with_memory word (given_from Free words)
given_from Fresh (word ∷ words) = with_fresh word (given_from Free words)
given_from Free (word ∷ words) =
    cond (bytes_eq word (codes "--sparse")) (record (given_from Free words) { is_sparse = true })
    (cond (bytes_eq word (codes "--json")) (record (given_from Free words) { is_json = true })
    (cond (bytes_eq word (codes "--until-eof")) (record (given_from Free words) { until_eof = true })
    (cond (bytes_eq word (codes "--")) (given_from Behind words)
    (cond (bytes_eq word (codes "--origin")) (given_from Origin words)
    (cond (bytes_eq word (codes "--threads")) (given_from Threads words)
    (cond (bytes_eq word (codes "--memory")) (given_from Memory words)
    (cond (bytes_eq word (codes "--new")) (given_from Fresh words)
    (with_written word (given_from Free words)))))))))

abbrev pub given_by : List (List ℕ) → Words
given_by = given_from Free

-- what these words give, and after that what those give
abbrev pub joined : Words → Words → Words
joined a b = record { arguments = a.arguments ++ b.arguments; origins = a.origins ++ b.origins; threads = a.threads ++ b.threads; memory = a.memory ++ b.memory; fresh = a.fresh ++ b.fresh; is_sparse = a.is_sparse || b.is_sparse; is_json = a.is_json || b.is_json; until_eof = a.until_eof || b.until_eof }

-- the arguments are that file, and a text that means that number
abbrev pub AreFileAndNumber : List (List ℕ) → List ℕ → ℕ → Type 0
AreFileAndNumber arguments file n = (text : List ℕ) × (arguments ≡ file ∷ text ∷ []) × IsNumber text n

-- the arguments are that file, and a text that means so many bytes; or two files and that
abbrev pub AreFileAndSize : List (List ℕ) → List ℕ → ℕ → Type 0
AreFileAndSize arguments file n = (text : List ℕ) × (arguments ≡ file ∷ text ∷ []) × IsSize text n

abbrev pub AreFilesAndSize : List (List ℕ) → List ℕ → List ℕ → ℕ → Type 0
AreFilesAndSize arguments file copy n = (text : List ℕ) × (arguments ≡ file ∷ copy ∷ text ∷ []) × IsSize text n

-- there is one text, and it means that address
abbrev pub AreAddress : List (List ℕ) → Address → Type 0
AreAddress texts address = (text : List ℕ) × (texts ≡ text ∷ []) × IsAddress text address

-- there is one text, and it means so many bytes
abbrev pub AreSize : List (List ℕ) → ℕ → Type 0
AreSize texts n = (text : List ℕ) × (texts ≡ text ∷ []) × IsSize text n

-- there is one text, and it means that number
abbrev pub AreNumber : List (List ℕ) → ℕ → Type 0
AreNumber texts n = (text : List ℕ) × (texts ≡ text ∷ []) × IsNumber text n

-- The texts ask for so many threads: there is no text and no number, or just one text, which means that number, from 1 to 64.
abbrev pub AskForThreads : List (List ℕ) → Option ℕ → Type 0
AskForThreads texts None = texts ≡ []
AskForThreads texts (Some n) = AreNumber texts n × (0 < n) × (n ≤ 64)

-- The texts give clients so many bytes of memory. There is no text and no number, or just one text, which means that number, 16,777,216
-- at least and under 2 ^ 64.
abbrev pub AskForMemory : List (List ℕ) → Option ℕ → Type 0
AskForMemory texts None = texts ≡ []
AskForMemory texts (Some n) = AreSize texts n × (16777216 ≤ n) × (n < 2 ^ 64)

-- The texts give a new journal so many bytes: there is no text and no number, or just one text, which means that number, under 2 ^ 64.
abbrev pub AskForNew : List (List ℕ) → Option ℕ → Type 0
AskForNew texts None = texts ≡ []
AskForNew texts (Some n) = AreSize texts n × (n < 2 ^ 64)

-- This word asks for just that, with what the words after it give; which command `help` is of is for `clap` to tell. A file's size in bytes is under 2 ^ 64, and a port a number under
-- 2 ^ 16 that is not 0. An origin is one that browsers send. The number of threads is one from 1 to 64, the memory of clients
-- 16,777,216 bytes or more, and the size of a new journal under 2 ^ 64; each may be left out.
abbrev pub AskWith : List ℕ → Words → Subcommand → Type 0
AskWith name given Script = (name ≡ codes "script") × (given.arguments ≡ [])
AskWith name given Version = (name ≡ codes "--version") × (given.arguments ≡ [])
AskWith name given Help = name ≡ codes "help"
AskWith name given (Ping address) = (name ≡ codes "ping") × AreAddress given.arguments address
AskWith name given (Format file bytes is_sparse) =
    (name ≡ codes "format") × AreFileAndSize given.arguments file.now bytes × (bytes < 2 ^ 64) × (is_sparse ≡ given.is_sparse)
AskWith name given (Show file is_json) = (name ≡ codes "show") × (given.arguments ≡ file.now ∷ []) × (is_json ≡ given.is_json)
AskWith name given (Held file is_json) = (name ≡ codes "held") × (given.arguments ≡ file.now ∷ []) × (is_json ≡ given.is_json)
AskWith name given (Sessions file is_json) = (name ≡ codes "sessions") × (given.arguments ≡ file.now ∷ []) × (is_json ≡ given.is_json)
AskWith name given (Copy file copy bytes is_sparse) =
    (name ≡ codes "copy") × AreFilesAndSize given.arguments file.now copy.now bytes × (bytes < 2 ^ 64) × (is_sparse ≡ given.is_sparse)
AskWith name given (Serve file port origins threads memory new until_eof is_json) =
    (name ≡ codes "serve") × AreFileAndNumber given.arguments file.now port × (0 < port) × (port < 2 ^ 16)
    × (map (λ origin. origin.now) origins.items ≡ given.origins) × (list_all is_origin given.origins ≡ true)
    × AskForThreads given.threads threads × AskForMemory given.memory memory × AskForNew given.fresh new × (until_eof ≡ given.until_eof) × (is_json ≡ given.is_json)

-- the words are the program's name, one that names a subcommand, and what it is to be done with
abbrev pub AskFor : List (List ℕ) → Subcommand → Type 0
AskFor words asked = (program : List ℕ) × (name : List ℕ) × (rest : List (List ℕ)) × (words ≡ program ∷ name ∷ rest) × AskWith name (given_by rest) asked

-- they ask for nothing that the program does
abbrev pub AskNothingWith : List ℕ → Words → Type 0
AskNothingWith name given = (asked : Subcommand) → AskWith name given asked → ⊥

abbrev pub AskForNothing : List (List ℕ) → Type 0
AskForNothing words = (asked : Subcommand) → AskFor words asked → ⊥

-- an origin is given that no browser sends
abbrev pub HasOtherOrigin : Words → Type 0
HasOtherOrigin given = list_all is_origin given.origins ≡ false

-- what is given for the number of threads is not one; likewise for the memory of clients, and for the size of a new journal
abbrev pub HasOtherThreads : Words → Type 0
HasOtherThreads given = (threads : Option ℕ) → AskForThreads given.threads threads → ⊥

abbrev pub HasOtherMemory : Words → Type 0
HasOtherMemory given = (memory : Option ℕ) → AskForMemory given.memory memory → ⊥

abbrev pub HasOtherNew : Words → Type 0
HasOtherNew given = (new : Option ℕ) → AskForNew given.fresh new → ⊥

-- the words are the program's name, `serve`, and others of which this is so
abbrev pub ServeWith : (Words → Type 0) → List (List ℕ) → Type 0
ServeWith P words = (program : List ℕ) × (rest : List (List ℕ)) × (words ≡ program ∷ codes "serve" ∷ rest) × P (given_by rest)

abbrev pub HaveOtherOrigin : List (List ℕ) → Type 0
HaveOtherOrigin = ServeWith HasOtherOrigin

abbrev pub HaveOtherThreads : List (List ℕ) → Type 0
HaveOtherThreads = ServeWith HasOtherThreads

abbrev pub HaveOtherMemory : List (List ℕ) → Type 0
HaveOtherMemory = ServeWith HasOtherMemory

abbrev pub HaveOtherNew : List (List ℕ) → Type 0
HaveOtherNew = ServeWith HasOtherNew
