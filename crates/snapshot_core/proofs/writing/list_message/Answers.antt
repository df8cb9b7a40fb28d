use Rattle.std.proofs.Common.{◌≡◌, ◌<◌, ◌^◌, ◌++◌}
use Rattle.std.proofs.lemmas.Result.{on_ok_weaker}
use Rattle.std.specs.Int.{w32, w64, to_be_bytes}
use Rattle.command_core.specs.PartSpellings.{sending}
use Rattle.snapshot_core.proofs.Puts.{last_put, then_put}
use Rattle.snapshot_core.specs.Parts.{written}
use Rattle.snapshot_core.proofs.writing.list_message.Goals as goal

pub returns-clause-put : goal.returns-clause-put
returns-clause-put c =
    let old = (written c.args.parts.now.items) in
    let m = c.args.message.now in
    let command = to_be_bytes w64 m.number.command in
    let place = to_be_bytes w32 m.number.place in
    let first : written c.list_number.new.parts.items ≡ old ++ command = c.in_ok-list_number.ensures.put in
    let second : written c.list_place.new.parts.items ≡ written c.list_number.new.parts.items ++ place = c.in_ok-list_place.ensures.put in
    last_put c.list_sending.result old (command ++ place) (sending m.sending) _ _ (then_put old command place _ _ first second) c.list_sending.ensures.put

pub returns-clause-form : goal.returns-clause-form
returns-clause-form c =
    let m = c.args.message.now in
    let command : m.number.command < 2 ^ 64 = c.list_number.ensures.form in
    let place : m.number.place < 2 ^ 32 = c.list_place.ensures.form in
    on_ok_weaker c.list_sending.result (λ sent. record { command = command; place = place; sending = sent }) c.list_sending.ensures.form
