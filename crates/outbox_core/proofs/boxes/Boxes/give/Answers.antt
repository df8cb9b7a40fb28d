use Rattle.std.proofs.Common.{rules, ◌≡◌, ℕ, [], ◌∷◌, Some, None, cond, sym, subst}
use Rattle.std.specs.BTreeMap.{is_at}
use Rattle.std.specs.Ordering.{nat_cmp}
use Rattle.outbox_core.specs.Giving.{AreGiven, Kept, box_of}
use Rattle.outbox_core.proofs.Sessions.{box_given, none_given}
use Rattle.outbox_core.proofs.boxes.Boxes.give.Goals as goal

pub returns-in_default-clause-given : goal.returns-in_default-clause-given
returns-in_default-clause-given g c =
    let none : box_of c.args.out.session c.args.self.now ≡ None = search rules in
    let same : c.get_mut.follows.lender-at-none.entries ≡ c.args.self.now = search rules in
    subst (λ (b : Kept). AreGiven (c.args.out ∷ []) c.args.self.now b) (sym same) (none_given c.args.out c.args.self.now none)

pub returns-clause-given : goal.returns-clause-given
returns-clause-given g c =
    let found : box_of c.args.out.session c.args.self.now ≡ Some c.in-Some.sender.now = search rules in
    let updates : (q : ℕ) → box_of q (c.get_mut.follows.lender c.give_noting.new.sender).entries ≡ cond (is_at (nat_cmp c.args.out.session) q) (Some c.give_noting.new.sender) (box_of q c.args.self.now) = search rules in
    box_given c.args.out c.args.self.now (c.get_mut.follows.lender c.give_noting.new.sender).entries c.in-Some.sender.now c.give_noting.new.sender found updates c.give_noting.ensures

pub returns-in_default-clause-left : goal.returns-in_default-clause-left
returns-in_default-clause-left g c = search rules

pub returns-in_default-clause-room : goal.returns-in_default-clause-room
returns-in_default-clause-room g c = search rules
