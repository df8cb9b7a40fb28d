use Rattle.std.proofs.Common.{◌≡◌, ◌++◌, [], ◌∷◌, option_map, rules}
use Rattle.std.proofs.lemmas.Result.{on_ok_weaker}
use Rattle.std.specs.Int.{w64, to_be_bytes}
use Rattle.command_core.specs.PartSpellings.{counted, mode_byte, optional}
use Rattle.broker_core.specs.Names.{Name}
use Rattle.snapshot_core.specs.Snapshots.{delivery, listed, own_line}
use Rattle.snapshot_core.proofs.Puts.{last_put, then_put}
use Rattle.snapshot_core.specs.Parts.{written}
use Rattle.snapshot_core.proofs.writing.list_subscription.Goals as goal

pub returns-clause-put : goal.returns-clause-put
returns-clause-put c =
    let old = (written c.args.parts.now.items) in
    let sub = c.args.sub.now in
    let session = to_be_bytes w64 sub.session in
    let mode = mode_byte sub.mode ∷ [] in
    let own_name = optional (option_map (λ (name : Name). name.1) sub.durable) in
    let head = session ++ counted sub.id ++ counted sub.destination in
    let first : written c.list_number.new.parts.items ≡ old ++ session = c.in_ok-list_number.ensures.put in
    let id = then_put old session (counted sub.id) _ _ first c.in_ok-list_text.ensures.put in
    let to = then_put old (session ++ counted sub.id) (counted sub.destination) _ _ id c.in_ok-list_destination.ensures.put in
    let of_mode : written c.add.new.parts.items ≡ written c.list_destination.new.parts.items ++ mode = search rules in
    let name = then_put _ mode own_name _ _ of_mode c.in_ok-list_own_name.ensures.put in
    let named = then_put old head (mode ++ own_name) _ _ to name in
    let waiting = then_put old (head ++ (mode ++ own_name)) (own_line sub) _ _ named c.in_ok-list_own_line.ensures.put in
    let all : c.as_slice.result.now ≡ sub.unacknowledged = c.as_slice.ensures.value in
    last_put c.list_deliveries.result old (head ++ (mode ++ own_name) ++ own_line sub) (listed delivery sub.unacknowledged) _ _ waiting (rw (← all) c.list_deliveries.ensures.put)

pub returns-clause-form : goal.returns-clause-form
returns-clause-form c =
    let all : c.as_slice.result.now ≡ c.args.sub.now.unacknowledged = c.as_slice.ensures.value in
    on_ok_weaker c.list_deliveries.result (λ each. record {
      session = c.list_number.ensures.form;
      id = c.list_text.ensures.form;
      destination = c.list_destination.ensures.form;
      durable = c.in_ok-list_own_name.ensures.form;
      line = c.in_ok-list_own_line.ensures.form;
      each = each;
      rising = c.as_slice.ensures.rising;
    }) (rw (← all) c.list_deliveries.ensures.form)
