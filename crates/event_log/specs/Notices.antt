-- What the program says of its server from outside it: how far its start is, and why it serves no more.
use Rattle.std.specs.Prelude.{ℕ, List, [], ◌∷◌, ◌++◌, codes}
use Rattle.std.specs.Fmt.{decimal}
use Rattle.json.specs.Token.{Token}
use Rattle.json_line.specs.Objects.{line_of as line_of_object, number_member, object_of, text_member}
use Rattle.event_log.specs.Objects.{head_members}
use Rattle.event_log.specs.declared.object.Form.{Form}
use Rattle.event_log.specs.declared.object.Form.TheVariants.{Text, Object}
use Rattle.event_log.specs.declared.notice.Notice.{Notice}
use Rattle.event_log.specs.declared.notice.Notice.TheVariants.{Opening, Made, Reopening, TooFull, Fault}

-- its words
abbrev pub notice_text : Notice → List ℕ
notice_text (Opening seconds) = codes "opening the journal, " ++ (decimal seconds ++ codes " s so far")
notice_text (Made file) = codes "made the journal " ++ file.now
notice_text (Reopening seconds) = codes "opening the journal again in " ++ (decimal seconds ++ codes " s, which makes room")
notice_text TooFull = codes "what the journal holds does not fit into half of it; docs/RUNNING.md says what helps"
notice_text (Fault text) = text.now

-- the member `kind` of its object, and the members behind that
abbrev pub notice_kind : Notice → List ℕ
notice_kind (Opening _) = codes "opening"
notice_kind (Made _) = codes "made"
notice_kind (Reopening _) = codes "reopening"
notice_kind TooFull = codes "too_full"
notice_kind (Fault _) = codes "fault"

abbrev pub notice_members : Notice → List Token
notice_members (Opening seconds) = number_member (codes "seconds") seconds
notice_members (Made file) = text_member (codes "file") file.now
notice_members (Reopening seconds) = number_member (codes "seconds") seconds
notice_members TooFull = []
notice_members (Fault text) = text_member (codes "text") text.now

abbrev pub notice_object : List ℕ → Notice → List Token
notice_object moment notice = object_of (head_members moment (notice_kind notice) ++ notice_members notice)

-- Its line in a form: only an object has the moment.
abbrev pub notice_line : Form → List ℕ → Notice → List ℕ
notice_line Text moment notice = codes "stompd: " ++ (notice_text notice ++ 10 ∷ [])
notice_line Object moment notice = line_of_object (notice_object moment notice)
