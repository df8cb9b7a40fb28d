-- A disk that was just formatted, and others whose first area is live.
use Rattle.std.proofs.Common.{◌≡◌, ℕ, ◌+◌, ◌*◌, ◌<◌, ◌≤◌, ◌^◌, List, [], ◌∷◌, ◌++◌, length, get_or, take, drop, replicate, refl, sym, ◌∙◌, ap, arith, append_assoc, length-append}
use Rattle.std.specs.List.{AllByRecursion}
use Rattle.std.proofs.lemmas.List.{append-nil, take_at, drop_at}
use Rattle.disk_core.specs.Images.{patched}
use Rattle.disk_core.proofs.Patched.{length-patched}
use Rattle.command_core.specs.Commands.{CommandValue}
use Rattle.area_core.specs.declared.version.Version.{Version}
use Rattle.area_core.specs.declared.version.Version.TheVariants.{One, Two}
use Rattle.area_core.specs.Areas.{closed_snapshot, first_snapshot, front, headed, IsBlock}
use Rattle.area_core.specs.Journals.{header, new_header, Reads}
use Rattle.area_core.proofs.Ranges.{patched_front, patched_start}

length-header : (named : Version) (size : ℕ) → length (header named size) ≡ 16
length-header One size = refl
length-header Two size = refl

behind_header : (named : Version) (size : ℕ) (more : List ℕ) → get_or (header named size ++ (replicate 16 0 ++ more)) 16 0 ≡ 0
behind_header One size more = refl
behind_header Two size more = refl

-- the header is written, and a first area of a snapshot and some blocks
module _ (named version : Version) (size : ℕ) (snapshot : List ℕ) (blocks : List (List CommandValue)) where
  pub first_live : (d head area : List ℕ) → head ≡ header named size ++ replicate 16 0 → area ≡ front version snapshot blocks ++ 0 ∷ [] → length snapshot < 2 ^ 56 → AllByRecursion IsBlock blocks → length area ≤ size
      → 4096 ≤ size → 32 + 2 * size ≤ length d → 32 + 2 * size < 2 ^ 64 → Reads version size 0 snapshot blocks (patched 0 head (patched 32 area d))
  first_live d head area is_head is_area seven each room least fits most =
      let rest = drop (length area) (drop 32 d) in
      let more = replicate 16 0 ++ (area ++ rest) in
      let within : 32 + length area ≤ length d = omega (arith, fits, least, room) in
      let long : length head ≡ 32 = ap (λ (l : List ℕ). length l) is_head ∙ length-append (header named size) (replicate 16 0) ∙ ap (λ (n : ℕ). n + 16) (length-header named size) in
      let behind : drop (length head) (patched 32 area d) ≡ area ++ rest = ap (λ (n : ℕ). drop n (patched 32 area d)) long ∙ patched_start 32 area d (omega (arith, fits)) in
      let whole : patched 0 head (patched 32 area d) ≡ head ++ (area ++ rest) = patched_front head (patched 32 area d) ∙ ap (λ (l : List ℕ). head ++ l) behind in
      let parts : patched 0 head (patched 32 area d) ≡ header named size ++ more = whole ∙ ap (λ (l : List ℕ). l ++ (area ++ rest)) is_head ∙ append_assoc (header named size) (replicate 16 0) (area ++ rest) in
      let sized = length-append (front version snapshot blocks) (0 ∷ []) in
      record {
        journal = record {
          named = named;
          begins = ap (λ (l : List ℕ). take 16 l) parts ∙ take_at (header named size) more 16 (length-header named size);
          selects = ap (λ (l : List ℕ). get_or l 16 0) parts ∙ behind_header named size (area ++ rest);
          least = least;
          most = most;
          fits = omega (arith, fits, long, length-patched 32 area d within, length-patched 0 head (patched 32 area d) (omega (arith, long, within, length-patched 32 area d within)));
        };
        area = record {
          gate = 0;
          rest = rest;
          whole = ap (λ (l : List ℕ). drop 32 l) whole ∙ drop_at head (area ++ rest) 32 long ∙ ap (λ (l : List ℕ). l ++ rest) is_area ∙ append_assoc (front version snapshot blocks) (0 ∷ []) rest;
          shut = omega arith;
          fits = omega (arith, room, ap (λ (l : List ℕ). length l) is_area, sized);
          seven = seven;
          each = each;
        };
      }

-- a new journal
pub formatted : (size : ℕ) (d head front : List ℕ) → head ≡ header Two size ++ replicate 16 0 → front ≡ closed_snapshot Two first_snapshot → 4096 ≤ size → 32 + 2 * size ≤ length d → 32 + 2 * size < 2 ^ 64
    → Reads Two size 0 first_snapshot [] (patched 0 head (patched 32 front d))
formatted size d head area is_head is_area least fits most =
    first_live Two Two size first_snapshot [] d head area is_head (is_area ∙ ap (λ (l : List ℕ). l ++ 0 ∷ []) (sym (append-nil (headed Two first_snapshot)))) (omega arith) tt
    (omega (arith, least, ap (λ (l : List ℕ). length l) is_area)) least fits most

-- it begins with its header
pub begins_new : (size : ℕ) (d head : List ℕ) → head ≡ new_header size → take 32 (patched 0 head d) ≡ new_header size
begins_new size d head is_head =
    let long : length head ≡ 32 = ap (λ (l : List ℕ). length l) is_head ∙ length-append (header Two size) (replicate 16 0) ∙ ap (λ (n : ℕ). n + 16) (length-header Two size) in
    ap (λ (l : List ℕ). take 32 l) (patched_front head d) ∙ take_at head (drop (length head) d) 32 long ∙ is_head
