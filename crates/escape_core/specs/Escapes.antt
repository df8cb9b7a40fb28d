use Rattle.std.specs.Prelude.{List, [], ◌∷◌, ℕ, Option, Some, None, ◌==◌, if◌then◌else◌, flat_map}

-- how a byte of a name or value is written: CR, LF, colon and backslash have an escape (STOMP 1.2, "Value Encoding")
abbrev pub code_of : ℕ → List ℕ
code_of b =
    if b == 13 then 92 ∷ 114 ∷ []
    else if b == 10 then 92 ∷ 110 ∷ []
    else if b == 58 then 92 ∷ 99 ∷ []
    else if b == 92 then 92 ∷ 92 ∷ []
    else b ∷ []

-- the text as it is written
abbrev pub escaped : List ℕ → List ℕ
escaped text = flat_map code_of text

-- what a backslash and this byte mean, if anything
abbrev pub escape_of : ℕ → Option ℕ
escape_of c =
    if c == 114 then Some 13
    else if c == 110 then Some 10
    else if c == 99 then Some 58
    else if c == 92 then Some 92
    else None

-- this byte, and then the text, if both are there
abbrev pub behind : Option ℕ → Option (List ℕ) → Option (List ℕ)
behind None text = None
behind (Some b) None = None
behind (Some b) (Some text) = Some (b ∷ text)

-- What written bytes mean, if anything: a backslash and the byte after it are an escape, every other byte is itself.
abbrev pub unescaped : List ℕ → Option (List ℕ)
unescaped [] = Some []
unescaped (b ∷ []) = if b == 92 then None else Some (b ∷ [])
unescaped (b ∷ c ∷ more) = if b == 92 then behind (escape_of c) (unescaped more) else behind (Some b) (unescaped (c ∷ more))
