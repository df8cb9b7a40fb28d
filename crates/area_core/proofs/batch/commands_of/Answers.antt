use Rattle.std.proofs.Common.{rules, ◌≡◌, ◌-◌, ◌++◌, List, ℕ, length, sym, ◌∙◌, ap, subst, arith, length-append}
use Rattle.area_core.specs.Areas.{records}
use Rattle.area_core.specs.Damage.{IsRecordTold}
use Rattle.area_core.proofs.RecordsRead.{all_read, each_more, less_left, record_more, some_rest, told_so}
use Rattle.area_core.proofs.batch.commands_of.Goals as goal

pub loop-rest-smaller : goal.loop-rest-smaller
loop-rest-smaller c =
    omega (arith, less_left c.args.bytes.now c.loop-rest.rest.now c.in-Ok.size c.loop-rest.commands.items c.read_record.new.commands.items c.in-Ok.ensures.read, ap (λ (l : List ℕ). length l) c.split_at.ensures.back)

pub loop-rest-preserved : goal.loop-rest-preserved
loop-rest-preserved c = record {
  whole = record_more c.args.bytes.now c.loop-rest.rest.now c.in-Ok.size c.loop-rest.commands.items c.read_record.new.commands.items c.in-Ok.ensures.read c.loop-rest.invariant.whole
      ∙ ap (λ (l : List ℕ). records c.read_record.new.commands.items ++ l) (sym c.split_at.ensures.back);
  each = each_more c.args.bytes.now c.loop-rest.rest.now c.in-Ok.size c.loop-rest.commands.items c.read_record.new.commands.items c.in-Ok.ensures.read c.loop-rest.invariant.each;
}

pub overflow_sub-offset : goal.overflow_sub-offset
overflow_sub-offset c =
    omega (arith, ap (λ (l : List ℕ). length l) c.loop-rest.invariant.whole, length-append (records c.loop-rest.commands.items) c.loop-rest.rest.now)

pub overflow_add-place : goal.overflow_add-place
overflow_add-place c = omega (arith, c.requires)

pub returns-in-Err-clause-refused : goal.returns-in-Err-clause-refused
returns-in-Err-clause-refused c =
    let bytes = c.args.bytes.now in
    let rest = c.loop-rest.rest.now in
    let cs = c.loop-rest.commands.items in
    let long = length-append (records cs) rest in
    let all : length bytes ≡ length (records cs ++ rest) = ap (λ (l : List ℕ). length l) c.loop-rest.invariant.whole in
    subst (λ fault. IsRecordTold fault c.args.place bytes) (sym c.told.ensures)
    (told_so c.in-Err.fault _ c.args.place (length bytes - length rest) bytes (search rules) (λ is. record {
      good = cs;
      rest = rest;
      whole = c.loop-rest.invariant.whole;
      each = c.loop-rest.invariant.each;
      at = omega (arith, all, long);
      some = some_rest rest c.loop-rest-test.ensures;
      none = c.in-Err.ensures.none is;
    }))

pub returns-clause-whole : goal.returns-clause-whole
returns-clause-whole c = all_read c.args.bytes.now c.loop-rest.rest.now c.loop-rest.commands.items (search rules) c.loop-rest.invariant.whole
