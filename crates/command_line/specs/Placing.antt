-- What is done about a file that stands where one is to be made.
use Rattle.std.specs.Prelude.{◌==◌, List, ℕ, Bool, true, false, ◌++◌, codes, cond}
use Rattle.std.specs.List.{list_all}
use Rattle.command_line.specs.declared.making.Course.{Course}
use Rattle.command_line.specs.declared.making.Course.TheVariants.{Clear, Wait, Keep}

-- a file is made under this name
abbrev pub draft_name : List ℕ → List ℕ
draft_name path = path ++ codes ".new"

abbrev pub is_blank : List ℕ → Bool
is_blank bytes = list_all (λ b. b == 0) bytes

-- What is no file stays. One that another process has locked is being made, and so is one that lost its name meanwhile. Of the others one
-- that begins with zeros, where a journal has its name, is what a killed run left.
abbrev pub course_of : Bool → Bool → Bool → List ℕ → Course
course_of false is_locked is_same head = Keep
course_of true false is_same head = Wait
course_of true true false head = Wait
course_of true true true head = cond (is_blank head) Clear Keep
