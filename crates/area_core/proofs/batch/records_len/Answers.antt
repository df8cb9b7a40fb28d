use Rattle.std.proofs.Common.{inl, inr, ◌+◌, ◌^◌, arith, length, ap, sym, ◌∙◌, flat_map, List, ℕ, subst}
use Rattle.std.specs.List.{AllByRecursion}
use Rattle.std.proofs.lemmas.List.{take_all}
use Rattle.std.proofs.lemmas.Bool.{cases_lt}
use Rattle.command_core.proofs.Walks.{all_more}
use Rattle.area_core.proofs.Batches.{EntryHasRecord, batch_forms, batch_records, carried, entry_record, total_more, total_most}
use Rattle.area_core.proofs.batch.records_len.Goals as goal

pub returns-in_err-total-clause-none : goal.returns-in_err-total-clause-none
returns-in_err-total-clause-none g c is =
    let over = c.in_err-total.ensures in
    let most = total_most c.args.batch.now c.loop-entry.entry-index c.loop-entry.total c.entry-item.result c.bytes.result.now c.loop-entry-test.true c.entry-item.is c.bytes.ensures c.loop-entry.invariant.total in
    elim (cases_lt (c.loop-entry.total + length c.bytes.result.now) (2 ^ 64)) [
      | inl small ↦ absurd (over small)
      | inr large ↦ omega (arith, large, most)
    ]

pub loop-entry-preserved : goal.loop-entry-preserved
loop-entry-preserved g c = record {
  total = c.in_ok-total.ensures.1 ∙ total_more c.args.batch.now c.loop-entry.entry-index c.loop-entry.total c.entry-item.result c.bytes.result.now c.loop-entry-test.true c.entry-item.is c.bytes.ensures c.loop-entry.invariant.total;
  form = all_more EntryHasRecord c.args.batch.now c.loop-entry.entry-index c.entry-item.result c.loop-entry-test.true c.entry-item.is c.loop-entry.invariant.form (carried c.bytes.result.now c.entry-item.result.command c.bytes.ensures);
}

pub returns-clause-some : goal.returns-clause-some
returns-clause-some g c =
    c.loop-entry.invariant.total
    ∙ ap (λ es. length (flat_map entry_record es)) (take_all c.loop-entry.entry-index c.args.batch.now c.loop-entry-test.false)
    ∙ ap (λ (l : List ℕ). length l) (sym (batch_records c.args.batch.now))

pub returns-clause-form : goal.returns-clause-form
returns-clause-form g c =
    batch_forms c.args.batch.now (subst (λ es. AllByRecursion EntryHasRecord es) (take_all c.loop-entry.entry-index c.args.batch.now c.loop-entry-test.false) c.loop-entry.invariant.form)
