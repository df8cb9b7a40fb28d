use Rattle.clients.proofs.WaitsUntil.{sooner}
use Rattle.clients.proofs.deadlines.Deadlines.given_up_in.Goals as goal

pub returns : goal.returns
returns c =
    let now = c.args.now in
    sooner _ _ now _ _ _ c.min-5.ensures c.stay_in-stay.ensures
    (sooner _ _ now _ _ _ c.min-4.ensures c.part_in-part.ensures
    (sooner _ _ now _ _ _ c.min-3.ensures c.session_in-session.ensures
    (sooner _ _ now _ _ _ c.min-2.ensures (c.take_in-take.ensures now)
    (sooner _ _ now _ _ _ c.min.ensures c.close_in-close.ensures c.silence_in-silence.ensures))))
