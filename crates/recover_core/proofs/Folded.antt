-- Commands carried out, or left out once the count is large.
use Rattle.std.proofs.Common.{◌≡◌, inl, inr, ℕ, ◌+◌, ◌<◌, ◌≤◌, ◌^◌, List, [], ◌∷◌, ◌++◌, length, sym, ◌∙◌, ap, subst, arith, length-append}
use Rattle.command_core.specs.Commands.{CommandValue}
use Rattle.broker_core.specs.States.{State}
use Rattle.broker_core.specs.Steps.{state_after, state_after_by, state_after_v1, step_by}
use Rattle.broker_state.specs.declared.nack_rule.NackRule.{NackRule}
use Rattle.broker_state.specs.declared.nack_rule.NackRule.TheVariants.{Drops, Keeps}
use Rattle.area_core.specs.declared.version.Version.{Version}
use Rattle.recover_core.specs.Opens.{IsFolded, IsLeftOut}
use Rattle.recover_core.specs.Standing.{joined, rule_of, Leads}
use Rattle.recover_core.specs.Walks.{Follows}
use Rattle.recover_core.proofs.Stores.{after-append-by, commands_push}

count_after_by : (rule : NackRule) (cs : List CommandValue) (s : State) → (state_after_by rule s cs).count ≡ s.count + length cs
count_after_by rule [] s = omega arith
count_after_by rule (c ∷ cs) s = let more = count_after_by rule cs (step_by rule s c) in omega (arith, more)

pub count_after : (cs : List CommandValue) (s : State) → (state_after s cs).count ≡ s.count + length cs
count_after cs s = count_after_by Keeps cs s

pub count_after_v1 : (cs : List CommandValue) (s : State) → (state_after_v1 s cs).count ≡ s.count + length cs
count_after_v1 cs s = count_after_by Drops cs s

-- the rest is left out
pub left_out : (rule : NackRule) (first now : State) (done rest all : List CommandValue) → now ≡ state_after_by rule first done → all ≡ done ++ rest → 2 ^ 61 < now.count → IsLeftOut rule first all now
left_out rule first now done rest all is whole large = record {
  now_large = large;
  all_large = omega (arith, large, ap (λ (s : State). s.count) is, count_after_by rule done first, count_after_by rule all first, ap (λ (l : List CommandValue). length l) whole, length-append done rest);
}

pub folded_more : (rule : NackRule) (first s t : State) (cs ds : List CommandValue) → IsFolded rule first cs s → IsFolded rule s ds t → IsFolded rule first (cs ++ ds) t
folded_more rule first s t cs ds (inl was) (inl is) = inl (is ∙ ap (λ (u : State). state_after_by rule u ds) was ∙ sym (after-append-by rule cs first ds))
folded_more rule first s t cs ds (inl was) (inr out) = inr (record {
  now_large = out.now_large;
  all_large = omega (arith, out.all_large, ap (λ (u : State). (state_after_by rule u ds).count) was, ap (λ (u : State). u.count) (after-append-by rule cs first ds));
})
folded_more rule first s t cs ds (inr out) (inl is) = inr (record {
  now_large = omega (arith, out.now_large, ap (λ (u : State). u.count) is, count_after_by rule ds s);
  all_large = omega (arith, out.all_large, count_after_by rule cs first, count_after_by rule (cs ++ ds) first, length-append cs ds);
})
folded_more rule first s t cs ds (inr out) (inr more) = inr (record {
  now_large = more.now_large;
  all_large = omega (arith, out.all_large, count_after_by rule cs first, count_after_by rule (cs ++ ds) first, length-append cs ds);
})

pub follows_more : (version : Version) (snapshot : List ℕ) (blocks : List (List CommandValue)) (s t : State) (batch : List CommandValue) → Follows version snapshot blocks s → IsFolded (rule_of version) s batch t → Follows version snapshot (blocks ++ batch ∷ []) t
follows_more version snapshot blocks s t batch f more = record {
  first = f.first;
  spells = f.spells;
  folded = subst (λ (l : List CommandValue). IsFolded (rule_of version) f.first l t) (sym (commands_push blocks batch)) (folded_more (rule_of version) f.first s t (joined blocks) batch f.folded more);
}

-- where the count is not large, nothing was left out
pub follows_leads : (version : Version) (snapshot : List ℕ) (blocks : List (List CommandValue)) (s : State) → Follows version snapshot blocks s → s.count ≤ 2 ^ 61 → Leads version snapshot blocks s
follows_leads version snapshot blocks s f small = record {
  first = f.first;
  spells = f.spells;
  is = elim f.folded [ inl is ↦ is | inr out ↦ absurd (omega (arith, small, out.now_large)) ];
}

-- where it is, the state that these lead to has a large count too
pub leads_large : (version : Version) (snapshot : List ℕ) (blocks : List (List CommandValue)) (s : State) (f : Follows version snapshot blocks s) → 2 ^ 61 < s.count → 2 ^ 61 < (state_after_by (rule_of version) f.first (joined blocks)).count
leads_large version snapshot blocks s f large = elim f.folded [ inl is ↦ omega (arith, large, ap (λ (u : State). u.count) is) | inr out ↦ out.all_large ]
