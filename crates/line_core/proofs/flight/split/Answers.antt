use Rattle.std.proofs.Common.{◌≡◌, ◌∙◌, ◌+◌, add-one, sym, take, drop}
use Rattle.std.proofs.lemmas.Result.{IfOk-weaker, on_ok_weaker}
use Rattle.command_core.specs.declared.command.AckMode.TheVariants.{Client}
use Rattle.line_core.specs.Flights.{settled, unsettled}
use Rattle.line_core.proofs.Flights.{settled-alone, settled-one_alone, settled-up_to, unsettled-alone, unsettled-one_alone, unsettled-up_to}
use Rattle.line_core.proofs.flight.split.Goals as goal

pub returns-in-Client-clause-settled : goal.returns-in-Client-clause-settled
returns-in-Client-clause-settled g c =
    λ d at.
    let items = c.args.deliveries.now.items in
    let is : take (c.args.place + 1) items ≡ settled Client d items = rw add-one (sym (settled-up_to d items c.args.place at c.requires.rising)) in
    rw c.in-Client.is (IfOk-weaker c.take_up_to.result (λ out. out.items ≡ take (c.args.place + 1) items) (λ out. out.items ≡ settled Client d items) (λ out h. h ∙ is) c.take_up_to.ensures.taken)

pub returns-in-Client-clause-unsettled : goal.returns-in-Client-clause-unsettled
returns-in-Client-clause-unsettled g c =
    λ d at.
    let items = c.args.deliveries.now.items in
    let is : drop (c.args.place + 1) items ≡ unsettled Client d items = rw add-one (sym (unsettled-up_to d items c.args.place at c.requires.rising)) in
    rw c.in-Client.is (on_ok_weaker c.take_up_to.result (λ h. h ∙ is) c.take_up_to.ensures.rest)

pub returns-in-ClientIndividual-clause-settled : goal.returns-in-ClientIndividual-clause-settled
returns-in-ClientIndividual-clause-settled g c =
    λ d at.
    let items = c.args.deliveries.now.items in
    let is = settled-one_alone c.args.mode c.in-ClientIndividual.is d items ∙ settled-alone d items c.args.place at c.requires.rising in
    IfOk-weaker c.take_one.result (λ out. out.items ≡ take 1 (drop c.args.place items)) (λ out. out.items ≡ settled c.args.mode d items) (λ out h. h ∙ sym is) c.take_one.ensures.taken

pub returns-in-ClientIndividual-clause-unsettled : goal.returns-in-ClientIndividual-clause-unsettled
returns-in-ClientIndividual-clause-unsettled g c =
    λ d at.
    let items = c.args.deliveries.now.items in
    let is = unsettled-one_alone c.args.mode c.in-ClientIndividual.is d items ∙ unsettled-alone d items c.args.place at c.requires.rising in
    on_ok_weaker c.take_one.result (λ h. h ∙ sym is) c.take_one.ensures.rest
