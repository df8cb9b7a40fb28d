use Rattle.std.proofs.Common.{◌≡◌, ◌&&◌, true, refl, ap, sym, ◌∙◌}
use Rattle.std.specs.Cmp.{IsTotalOrder, on_total, then_total}
use Rattle.std.specs.Ordering.{is_eq, ordering_then}
use Rattle.std.specs.Str.{bytes_eq}
use Rattle.std.specs.declared.cmp.Ordering.{Ordering}
use Rattle.std.specs.declared.cmp.Ordering.TheVariants.{Less, Equal, Greater}
use Rattle.std.proofs.lemmas.Cmp.{nat_list_cmp_total}
use Rattle.std.proofs.lemmas.Map.Text.{is_eq-slice_cmp}
use Rattle.std.proofs.lemmas.Slice.Eq.{bytes_eq-Decides}
use Rattle.broker_state.specs.Names.{AreSame, Name, name_cmp, text_cmp}

-- texts that compare as equal are the same
pub same_texts : AreSame text_cmp
same_texts a b is = (bytes_eq-Decides a b).0 (sym (is_eq-slice_cmp a b) ∙ ap is_eq is)

pub texts_total : IsTotalOrder text_cmp
texts_total = nat_list_cmp_total

same_parts : (a b : Name) (o p : Ordering) → text_cmp a.0 b.0 ≡ o → text_cmp a.1 b.1 ≡ p → ordering_then o p ≡ Equal → a ≡ b
same_parts a b Less p first second is = absurd cc
same_parts a b Equal Less first second is = absurd cc
same_parts a b Equal Equal first second is =
    ap (λ x. (x, a.1)) (same_texts a.0 b.0 first) ∙ ap (λ y. (b.0, y)) (same_texts a.1 b.1 second)
same_parts a b Equal Greater first second is = absurd cc
same_parts a b Greater p first second is = absurd cc

-- names that compare as equal are the same
pub same_names : AreSame name_cmp
same_names a b is = same_parts a b (text_cmp a.0 b.0) (text_cmp a.1 b.1) refl refl is

pub names_total : IsTotalOrder name_cmp
names_total = then_total (on_total (λ (t : Name). t.0) nat_list_cmp_total) (on_total (λ (t : Name). t.1) nat_list_cmp_total)

pub eq_parts : (o p : Ordering) → is_eq (ordering_then o p) ≡ (is_eq o && is_eq p)
eq_parts Less p = refl
eq_parts Equal p = refl
eq_parts Greater p = refl

-- names are the same where both parts are
pub is_eq-name_cmp : (a b : Name) → is_eq (name_cmp a b) ≡ (bytes_eq a.0 b.0 && bytes_eq a.1 b.1)
is_eq-name_cmp a b =
    eq_parts (text_cmp a.0 b.0) (text_cmp a.1 b.1) ∙ ap (λ x. x && is_eq (text_cmp a.1 b.1)) (is_eq-slice_cmp a.0 b.0) ∙ ap (λ y. bytes_eq a.0 b.0 && y) (is_eq-slice_cmp a.1 b.1)

-- a name is the same as itself
pub name_itself : (name : Name) → is_eq (name_cmp name name) ≡ true
name_itself name =
    is_eq-name_cmp name name ∙ ap (λ x. x && bytes_eq name.1 name.1) ((bytes_eq-Decides name.0 name.0).1 refl) ∙ (bytes_eq-Decides name.1 name.1).1 refl
