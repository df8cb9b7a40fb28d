use Rattle.std.specs.Prelude.{◌≡◌, List, [], ℕ, filter, map, unwrap_or}
use Rattle.std.specs.BTreeMap.{is_at}
use Rattle.std.specs.Map.{lookup}
use Rattle.std.specs.Str.{bytes_eq}
use Rattle.std.specs.declared.cmp.Ordering.{Ordering}
use Rattle.broker_state.specs.Names.{Name, text_cmp}

-- the durable names that are bound to a topic, in their order
abbrev pub names_of : List ℕ → List (Name × List ℕ) → List Name
names_of to durables = map (λ durable. durable.0) (filter (λ durable. bytes_eq durable.1 to) durables)

-- the names that stand under a key, none if there are none
abbrev pub names_at : {K : Type 0} → (K → K → Ordering) → List (K × List Name) → K → List Name
names_at cmp groups key = unwrap_or (lookup (is_at (cmp key)) groups) []

-- under each topic stand the names that are bound to it
abbrev pub AreGrouped : List (Name × List ℕ) → List (List ℕ × List Name) → Type 0
AreGrouped durables groups = (to : List ℕ) → names_at text_cmp groups to ≡ names_of to durables
