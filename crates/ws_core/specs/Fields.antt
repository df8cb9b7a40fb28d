-- The fields of a request's head, by their names.
use Rattle.std.specs.Prelude.{ℕ, List, [], ◌∷◌, cond}
use Rattle.websocket.specs.Headers.{Fields, eq_ignore_case}

-- the values of the fields of that name, in their order; letters of either case are the same (RFC 9110, section 5.1)
abbrev pub values : Fields → List ℕ → List (List ℕ)
values [] name = []
values (field ∷ fields) name = cond (eq_ignore_case field.0 name) (field.1 ∷ values fields name) (values fields name)
