-- Bytes are one area alone.
use Rattle.std.proofs.Common.{◌≡◌, ◌≢◌, ℕ, ◌<◌, ◌≤◌, ◌^◌, List, [], ◌∷◌, ◌++◌, length, get_or, take, drop, refl, sym, ◌∙◌, ap, subst, arith, append_assoc, length-append}
use Rattle.std.specs.Int.{w64, to_be_bytes, from_be_bytes}
use Rattle.std.specs.List.{AllByRecursion, flat_map}
use Rattle.std.proofs.lemmas.Nat.{from_be_bytes-to_be_bytes_8}
use Rattle.std.proofs.lemmas.List.{take_at, drop_at}
use Rattle.command_core.specs.Commands.{CommandValue}
use Rattle.command_core.specs.PartSpellings.{optional}
use Rattle.command_core.specs.Spellings.{operation, record_of}
use Rattle.command_core.proofs.RecordCommands.{begins_no_other}
use Rattle.area_core.specs.declared.version.Version.{Version}
use Rattle.area_core.specs.declared.version.Version.TheVariants.{One, Two}
use Rattle.area_core.specs.Areas.{counted, block, front, headed, records, word_of, HasRecord, IsArea, IsBlock}
use Rattle.area_core.specs.Journals.{header, is_odd, start, IsJournal, Reads}
use Rattle.area_core.proofs.Areas.{length-block}

-- numbers in eight bytes
pub number_one : (a b : ℕ) (x y : List ℕ) → a < 2 ^ 64 → b < 2 ^ 64 → to_be_bytes w64 a ++ x ≡ to_be_bytes w64 b ++ y → (a ≡ b) × (x ≡ y)
number_one a b x y small_a small_b e =
    let fronts : to_be_bytes w64 a ≡ to_be_bytes w64 b = sym (take_at (to_be_bytes w64 a) x 8 refl) ∙ ap (λ (l : List ℕ). take 8 l) e ∙ take_at (to_be_bytes w64 b) y 8 refl in (
      sym (from_be_bytes-to_be_bytes_8 a small_a) ∙ ap (λ (l : List ℕ). from_be_bytes w64 l) fronts ∙ from_be_bytes-to_be_bytes_8 b small_b,
      sym (drop_at (to_be_bytes w64 a) x 8 refl) ∙ ap (λ (l : List ℕ). drop 8 l) e ∙ drop_at (to_be_bytes w64 b) y 8 refl,
    )

pub counted_one : (a b x y : List ℕ) → length a < 2 ^ 64 → length b < 2 ^ 64 → counted a ++ x ≡ counted b ++ y → (a ≡ b) × (x ≡ y)
counted_one a b x y small_a small_b e =
    let both = number_one (length a) (length b) (a ++ x) (b ++ y) small_a small_b (sym (append_assoc (to_be_bytes w64 (length a)) a x) ∙ e ∙ append_assoc (to_be_bytes w64 (length b)) b y) in (
      sym (take_at a x (length a) refl) ∙ ap (λ (l : List ℕ). take (length a) l) both.1 ∙ take_at b y (length a) (sym both.0),
      sym (drop_at a x (length a) refl) ∙ ap (λ (l : List ℕ). drop (length a) l) both.1 ∙ drop_at b y (length a) (sym both.0),
    )

-- words of one number tell one version, and one length
word_one : (v w : Version) (a b : ℕ) → a < 2 ^ 56 → b < 2 ^ 56 → word_of v a ≡ word_of w b → (v ≡ w) × (a ≡ b)
word_one One One a b small_a small_b e = (refl, omega (arith, e))
word_one One Two a b small_a small_b e = absurd (omega (arith, e, small_a))
word_one Two One a b small_a small_b e = absurd (omega (arith, e, small_b))
word_one Two Two a b small_a small_b e = (refl, omega (arith, e))

word_small : (v : Version) (a : ℕ) → a < 2 ^ 56 → word_of v a < 2 ^ 64
word_small One a small = omega (arith, small)
word_small Two a small = omega (arith, small)

-- what an area begins with is of one version and of one snapshot alone
headed_one : (v w : Version) (a b x y : List ℕ) → length a < 2 ^ 56 → length b < 2 ^ 56 → headed v a ++ x ≡ headed w b ++ y → (v ≡ w) × (a ≡ b) × (x ≡ y)
headed_one v w a b x y small_a small_b e =
    let both = number_one (word_of v (length a)) (word_of w (length b)) (a ++ x) (b ++ y) (word_small v (length a) small_a) (word_small w (length b) small_b)
    (sym (append_assoc (to_be_bytes w64 (word_of v (length a))) a x) ∙ e ∙ append_assoc (to_be_bytes w64 (word_of w (length b))) b y) in
    let one = word_one v w (length a) (length b) small_a small_b both.0 in (
      one.0,
      sym (take_at a x (length a) refl) ∙ ap (λ (l : List ℕ). take (length a) l) both.1 ∙ take_at b y (length a) (sym one.1),
      sym (drop_at a x (length a) refl) ∙ ap (λ (l : List ℕ). drop (length a) l) both.1 ∙ drop_at b y (length a) (sym one.1),
    )

-- a record has a byte
pub some_byte : (c : CommandValue) → 8 ≤ length (record_of c)
some_byte c = omega (arith, length-append (to_be_bytes w64 c.session) (optional c.receipt ++ operation c.op))

-- so have the records of commands, each of them
pub some_bytes : (cs : List CommandValue) → length cs ≤ length (records cs)
some_bytes [] = omega arith
some_bytes (c ∷ cs) = omega (arith, length-append (record_of c) (records cs), some_byte c, some_bytes cs)

-- records are of one list of commands alone
pub records_one : (xs ys : List CommandValue) → AllByRecursion HasRecord xs → AllByRecursion HasRecord ys → records xs ≡ records ys → xs ≡ ys
records_one [] [] fx fy e = refl
records_one [] (y ∷ ys) fx fy e = absurd (let long = some_byte y in let all = length-append (record_of y) (records ys) in omega (arith, long, all, ap (λ (l : List ℕ). length l) e))
records_one (x ∷ xs) [] fx fy e = absurd (let long = some_byte x in let all = length-append (record_of x) (records xs) in omega (arith, long, all, ap (λ (l : List ℕ). length l) e))
records_one (x ∷ xs) (y ∷ ys) fx fy e =
    let first = begins_no_other x y (record_of x) (record_of y) (records xs) (records ys) fx.0 fy.0 e in
    let size : length (record_of x) ≡ length (record_of y) = ap (λ (l : List ℕ). length l) first.1 in
    let rest : records xs ≡ records ys =
    sym (drop_at (record_of x) (records xs) (length (record_of x)) refl) ∙ ap (λ (l : List ℕ). drop (length (record_of x)) l) e ∙ drop_at (record_of y) (records ys) (length (record_of x)) (sym size) in
    let later = records_one xs ys fx.1 fy.1 rest in
    λ i. first.0 i ∷ later i

pub blocks_one : (xs bs : List (List CommandValue)) (g h : ℕ) (x y : List ℕ) → AllByRecursion IsBlock xs → AllByRecursion IsBlock bs → length (flat_map block xs) < 2 ^ 64 → length (flat_map block bs) < 2 ^ 64 → g ≢ 1 → h ≢ 1
    → flat_map block xs ++ g ∷ x ≡ flat_map block bs ++ h ∷ y → xs ≡ bs
blocks_one [] [] g h x y each_a each_b small_a small_b shut_a shut_b e = refl
blocks_one [] (b ∷ bs) g h x y each_a each_b small_a small_b shut_a shut_b e = absurd (shut_a (ap (λ (l : List ℕ). get_or l 0 0) e))
blocks_one (a ∷ xs) [] g h x y each_a each_b small_a small_b shut_a shut_b e = absurd (shut_b (sym (ap (λ (l : List ℕ). get_or l 0 0) e)))
blocks_one (a ∷ xs) (b ∷ bs) g h x y each_a each_b small_a small_b shut_a shut_b e =
    let long_a = length-append (block a) (flat_map block xs) in
    let long_b = length-append (block b) (flat_map block bs) in
    let size_a = length-block a in
    let size_b = length-block b in
    let whole : block a ++ (flat_map block xs ++ g ∷ x) ≡ block b ++ (flat_map block bs ++ h ∷ y) =
    sym (append_assoc (block a) (flat_map block xs) (g ∷ x)) ∙ e ∙ append_assoc (block b) (flat_map block bs) (h ∷ y) in
    let both = counted_one (records a) (records b) (flat_map block xs ++ g ∷ x) (flat_map block bs ++ h ∷ y) (omega (arith, small_a, long_a, size_a)) (omega (arith, small_b, long_b, size_b)) (ap (λ (l : List ℕ). drop 1 l) whole) in
    let later = blocks_one xs bs g h x y each_a.1 each_b.1 (omega (arith, small_a, long_a)) (omega (arith, small_b, long_b)) shut_a shut_b both.1 in
    let same = records_one a b each_a.0.each each_b.0.each both.0 in
    λ i. same i ∷ later i

pub front_one : (v w : Version) (s t : List ℕ) (xs bs : List (List CommandValue)) (g h : ℕ) (x y : List ℕ) → AllByRecursion IsBlock xs → AllByRecursion IsBlock bs → length s < 2 ^ 56 → length t < 2 ^ 56 → length (front v s xs) < 2 ^ 64 → length (front w t bs) < 2 ^ 64 → g ≢ 1 → h ≢ 1
    → front v s xs ++ g ∷ x ≡ front w t bs ++ h ∷ y → (v ≡ w) × (s ≡ t) × (xs ≡ bs)
front_one v w s t xs bs g h x y each_a each_b seven_a seven_b small_a small_b shut_a shut_b e =
    let long_a = length-append (headed v s) (flat_map block xs) in
    let long_b = length-append (headed w t) (flat_map block bs) in
    let both = headed_one v w s t (flat_map block xs ++ g ∷ x) (flat_map block bs ++ h ∷ y) seven_a seven_b
    (sym (append_assoc (headed v s) (flat_map block xs) (g ∷ x)) ∙ e ∙ append_assoc (headed w t) (flat_map block bs) (h ∷ y)) in
    (both.0, both.1, blocks_one xs bs g h x y each_a each_b (omega (arith, small_a, long_a)) (omega (arith, small_b, long_b)) shut_a shut_b both.2)

told_size : (v : Version) (size : ℕ) → drop 8 (header v size) ≡ to_be_bytes w64 size
told_size One size = refl
told_size Two size = refl

pub size_one : (a b i j : ℕ) (image : List ℕ) → IsJournal a i image → IsJournal b j image → a ≡ b
size_one a b i j image x y =
    let numbers : to_be_bytes w64 a ≡ to_be_bytes w64 b = sym (told_size x.named a) ∙ ap (λ (l : List ℕ). drop 8 l) (sym x.begins ∙ y.begins) ∙ told_size y.named b in
    sym (from_be_bytes-to_be_bytes_8 a (omega (arith, x.most))) ∙ ap (λ (l : List ℕ). from_be_bytes w64 l) numbers ∙ from_be_bytes-to_be_bytes_8 b (omega (arith, y.most))

pub area_one : (v w : Version) (size base : ℕ) (s t : List ℕ) (xs bs : List (List CommandValue)) (bytes : List ℕ) → size < 2 ^ 64 → IsArea v size s xs bytes → IsArea w size t bs bytes → (v ≡ w) × (s ≡ t) × (xs ≡ bs)
area_one v w size base s t xs bs bytes small x y =
    front_one v w s t xs bs x.gate y.gate x.rest y.rest x.each y.each x.seven y.seven (omega (arith, small, x.fits)) (omega (arith, small, y.fits)) x.shut y.shut (sym x.whole ∙ y.whole)

-- an image is read in one way
pub reads_one : (v w : Version) (a b i j : ℕ) (s t : List ℕ) (xs bs : List (List CommandValue)) (image : List ℕ) → Reads v a i s xs image → Reads w b j t bs image → (v ≡ w) × (a ≡ b) × (i ≡ j) × (s ≡ t) × (xs ≡ bs)
reads_one v w a b i j s t xs bs image x y =
    let same : b ≡ a = size_one b a j i image y.journal x.journal in
    let live : j ≡ i = sym y.journal.selects ∙ x.journal.selects in
    let here : IsArea w a t bs (drop (start a (is_odd i)) image) =
    subst (λ (k : ℕ). IsArea w k t bs (drop (start k (is_odd i)) image)) same (subst (λ (k : ℕ). IsArea w b t bs (drop (start b (is_odd k)) image)) live y.area) in
    let one = area_one v w a 0 s t xs bs (drop (start a (is_odd i)) image) (omega (arith, x.journal.most)) x.area here in
    (one.0, sym same, sym live, one.1, one.2)
