-- Runs of calls of a disk: what a stop at each moment since the start leaves, a line for each call.
use Rattle.std.proofs.Common.{◌≡◌, inl, inr, ⊎_elim, ℕ, List, arith}
use Rattle.disk_core.specs.declared.disk.Disk.{Ghosts}
use Rattle.disk_core.specs.Images.{Torn, Within, Frees, Same, Only}
use Rattle.disk_core.specs.Moments.{Elapses, LeavesOnly}

-- An honest disk so far: a stop since the start leaves what has P, and a stop now what has Q.
pub record Run {D : Type 0} (disk : Ghosts D) (start now : D) (P Q : List ℕ → Type 0) : Type 0 where
  pub honest : disk.honest now
  pub leaves : LeavesOnly disk.moment disk.images_since start now P
  pub images : (c : List ℕ) → disk.images now c → Q c
  pub within : (c : List ℕ) → Q c → P c

module _ {D : Type 0} (disk : Ghosts D) where
  -- before the first call; `only` is the disk's law `only_now` at the start
  pub starts : (start : D) (P Q : List ℕ → Type 0) → disk.honest start → ((c : List ℕ) → disk.images_since start (disk.moment start) c → disk.images start c)
      → ((c : List ℕ) → disk.images start c → Q c) → ((c : List ℕ) → Q c → P c) → Run disk start start P Q
  starts start P Q honest only images within = record {
    honest = honest;
    leaves = record { later = omega arith; each = λ c since. within c (images c (only c since)); before = λ t c le since. inl since };
    images = images;
    within = within;
  }

  -- time goes on to a moment whose images have P
  pub goes_on : (start now next : D) (P images : List ℕ → Type 0) → LeavesOnly disk.moment disk.images_since start now P
      → Elapses (disk.moment now) (disk.moment next) (disk.images_since now) (disk.images_since next) images → ((c : List ℕ) → images c → P c)
      → LeavesOnly disk.moment disk.images_since start next P
  goes_on start now next P images so_far time here = record {
    later = omega (arith, so_far.later, time.later);
    each = λ c since. ⊎_elim (so_far.each c) (here c) (time.nothing_else (disk.moment start) c so_far.later since);
    before = λ t c le since. ⊎_elim (so_far.before t c le) (λ now. inr (here c now)) (time.nothing_else t c (omega (arith, le, so_far.later)) since);
  }

  -- a write: what has Q has R with any bytes in the range
  pub writes : {start now next : D} {P Q : List ℕ → Type 0} (R : List ℕ → Type 0) {at n : ℕ} → Run disk start now P Q
      → (disk.honest now → disk.honest next) → (disk.honest now → Frees at n (disk.images now) (disk.images next))
      → (disk.honest now → Elapses (disk.moment now) (disk.moment next) (disk.images_since now) (disk.images_since next) (disk.images next))
      → ((d c : List ℕ) → Q d → Torn at n d c → R c) → ((c : List ℕ) → R c → P c) → Run disk start next P R
  writes {start} {now} {next} {P} R so_far stays frees time torn within =
      let each : (c : List ℕ) → disk.images next c → R c = λ c image. let from = (frees so_far.honest).only c image in torn from.0 c (so_far.images from.0 from.1) from.2 in
      record {
        honest = stays so_far.honest;
        leaves = goes_on start now next P (disk.images next) so_far.leaves (time so_far.honest) (λ c image. within c (each c image));
        images = each;
        within = within;
      }

  -- a call after which no image is new, as a read, or a sync whatever it answers
  pub keeps : {start now next : D} {P Q : List ℕ → Type 0} → Run disk start now P Q
      → (disk.honest now → disk.honest next) → (disk.honest now → Within (disk.images next) (disk.images now))
      → (disk.honest now → Elapses (disk.moment now) (disk.moment next) (disk.images_since now) (disk.images_since next) (disk.images next))
      → Run disk start next P Q
  keeps {start} {now} {next} {P} so_far stays fewer time =
      let each = λ (c : List ℕ) (image : disk.images next c). so_far.images c (fewer so_far.honest c image) in
      record {
        honest = stays so_far.honest;
        leaves = goes_on start now next P (disk.images next) so_far.leaves (time so_far.honest) (λ c image. so_far.within c (each c image));
        images = each;
        within = so_far.within;
      }

  -- a read
  pub reads : {start now next : D} {P Q : List ℕ → Type 0} → Run disk start now P Q
      → (disk.honest now → disk.honest next) → (disk.honest now → Same (disk.images now) (disk.images next))
      → (disk.honest now → Elapses (disk.moment now) (disk.moment next) (disk.images_since now) (disk.images_since next) (disk.images next))
      → Run disk start next P Q
  reads so_far stays same time = keeps so_far stays (λ honest. (same honest).no_more) time

  -- a sync that succeeded: each image is the content
  pub synced : {start now : D} {P Q : List ℕ → Type 0} (content : List ℕ) → Run disk start now P Q → Only content (disk.images now)
      → Run disk start now P (λ c. (c ≡ content) × Q c)
  synced content so_far only = record {
    honest = so_far.honest;
    leaves = so_far.leaves;
    images = λ c image. (only c image, so_far.images c image);
    within = λ c r. so_far.within c r.1;
  }

  -- more is known of the images of now
  pub knows : {start now : D} {P Q : List ℕ → Type 0} (R : List ℕ → Type 0) → Run disk start now P Q
      → ((c : List ℕ) → disk.images now c → R c) → ((c : List ℕ) → R c → P c) → Run disk start now P R
  knows R so_far images within = record { honest = so_far.honest; leaves = so_far.leaves; images = images; within = within }

  -- two runs, one behind the other
  pub joined : (start now next : D) (P : List ℕ → Type 0) → LeavesOnly disk.moment disk.images_since start now P → LeavesOnly disk.moment disk.images_since now next P
      → LeavesOnly disk.moment disk.images_since start next P
  joined start now next P first second = record {
    later = omega (arith, first.later, second.later);
    each = λ c since. ⊎_elim (first.each c) (λ (p : P c). p) (second.before (disk.moment start) c first.later since);
    before = λ t c le since. ⊎_elim (first.before t c le) (λ p. inr p) (second.before t c (omega (arith, le, first.later)) since);
  }

  -- and a weaker property
  pub weaker : (start now : D) (P R : List ℕ → Type 0) → LeavesOnly disk.moment disk.images_since start now P → ((c : List ℕ) → P c → R c)
      → LeavesOnly disk.moment disk.images_since start now R
  weaker start now P R leaves more = record {
    later = leaves.later;
    each = λ c since. more c (leaves.each c since);
    before = λ t c le since. ⊎_elim (λ before. inl before) (λ p. inr (more c p)) (leaves.before t c le since);
  }

  -- a call of a function that keeps P at each moment itself
  pub calls : {start now next : D} {P Q : List ℕ → Type 0} (R : List ℕ → Type 0) → Run disk start now P Q → disk.honest next
      → LeavesOnly disk.moment disk.images_since now next P → ((c : List ℕ) → disk.images next c → R c) → ((c : List ℕ) → R c → P c) → Run disk start next P R
  calls {start} {now} {next} {P} R so_far honest leaves images within = record {
    honest = honest;
    leaves = joined start now next P so_far.leaves leaves;
    images = images;
    within = within;
  }
