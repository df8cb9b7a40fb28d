-- What is told of a word that is not of its kind.
use Rattle.std.specs.Prelude.{List, [], ◌∷◌, ◌++◌, ℕ, codes}
use Rattle.command_line.specs.declared.words.WordKind.{WordKind}
use Rattle.command_line.specs.declared.words.WordKind.TheVariants.{Bytes, Port, Address, Threads, Memory, Origin, Header, OwnHeader, Transaction, Count, UnsettledCount, BodyOfLines, DurableQueue, EmptyName, PlainTopic, SamePlace, PortOption, Timeout}

-- what stands in its place
abbrev pub kind_text : WordKind → List ℕ
kind_text Bytes = codes "a size is a number of bytes under 2^64, or of K, M or G (1,024 of each), as 64M, 64MB or 64MiB"
kind_text Port = codes "PORT is a number from 1 to 65535"
kind_text Address = codes "PORT is a number from 1 to 65535, or ws://HOST:PORT/PATH in small letters; there is no TLS"
kind_text Threads = codes "--threads takes a number from 1 to 64"
kind_text Memory = codes "--memory takes a number of bytes from 16777216 (16M) on, and under 2^64"
kind_text Origin = codes "an origin is what a browser sends: SCHEME://HOST or SCHEME://HOST:PORT in small letters, with nothing after it"
kind_text Header = codes "--header takes NAME:VALUE"
kind_text OwnHeader = codes "send sets destination, receipt and content-length itself, and the server subscription, message-id and ack"
kind_text Transaction = codes "send has no transactions"
kind_text Count = codes "--count takes a number from 1 on"
kind_text UnsettledCount = codes "without --settle at most 16 are shown of what others may get"
kind_text BodyOfLines = codes "with --lines the bodies come from standard input"
kind_text DurableQueue = codes "only a topic has durable names"
kind_text EmptyName = codes "a durable name and its client-id are not empty"
kind_text PlainTopic = codes "a topic keeps messages only for a durable name"
kind_text SamePlace = codes "FROM and TO are the same"
kind_text PortOption = codes "there is no such option: the port stands by itself, as in stompd serve FILE 8080"
kind_text Timeout = codes "--timeout takes a number of seconds from 1 on"

-- the word, and that
abbrev pub word_text : WordKind → List ℕ → List ℕ
word_text kind word = codes "'" ++ word ++ codes "': " ++ kind_text kind
