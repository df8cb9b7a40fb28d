use Rattle.std.proofs.Common.{inr, refl, subst, ap}
use Rattle.clients.specs.Connections.{connection_of}
use Rattle.session_core.specs.declared.session.Act.TheVariants.{Direct}
use Rattle.clients.specs.Histories.{HasTold, Taken}
use Rattle.clients.specs.declared.turned.Ended.TheVariants.{Bad}
use Rattle.clients.specs.declared.progress.Stage.TheVariants.{Closing}
use Rattle.clients.proofs.ConversationEnds.{concludes_by_error, concludes_quietly}
use Rattle.clients.proofs.ClientProgress.{again_so, keeps_same, tells_later, tells_nobody, tells_told}
use Rattle.clients.proofs.ConnectionLife.{can_where, closes_over, loses, none_told_leaving, none_told_lost, same_stage, told_where}
use Rattle.clients.proofs.MessagesSent.{quiet, still, told_one}
use Rattle.clients.proofs.TurnReports.{sends_none, sends_one}
use Rattle.clients.proofs.client.Client.tell.Goals as goal

pub returns-then-is_cut_off-clause-tells : goal.returns-then-is_cut_off-clause-tells
returns-then-is_cut_off-clause-tells g c =
    tells_nobody g.L.Outgoing.sent c.args.notice _ _ _ _ c.requires.nothing refl (same_stage _ _ refl) (λ executes. none_told_leaving c.args.self.now.stage (c.is_cut_off.ensures.yes c.if-is_cut_off.true)) refl refl
    (quiet g.L.Outgoing.sent _ _ _ _ (still _ _ refl refl refl) refl)

pub returns-in-Ok-clause-tells : goal.returns-in-Ok-clause-tells
returns-in-Ok-clause-tells g c =
    tells_told g.L.Outgoing.sent c.args.notice c.args.self.now _ _ _ c.requires.nothing refl
    (λ executes. closes_over _ _ (told_where c.args.self.now.stage executes (λ leaving. c.is_cut_off.ensures.no c.if-is_cut_off.false leaving)) (ap (λ x. record (connection_of c.args.self.now) { progress = x; stage = Closing Bad }) c.over-self.ensures))
    (keeps_same (connection_of c.args.self.now) _ refl)
    (λ executes. concludes_by_error g.L.Outgoing.sent _ _ _ _ c.args.notice
    (can_where c.args.self.now.stage executes (λ leaving. c.is_cut_off.ensures.no c.if-is_cut_off.false leaving)) c.frame-form.ensures.error c.in-Ok.ensures.told)
    (told_one g.L.Outgoing.sent _ _ _ _ c.args.notice c.frame-form.ensures.error (inr c.over-self.ensures) refl refl
    c.in-Ok.ensures.told)

pub returns-in-Err-Gone-clause-tells : goal.returns-in-Err-Gone-clause-tells
returns-in-Err-Gone-clause-tells g c =
    tells_nobody g.L.Outgoing.sent c.args.notice c.args.self.now _ _ _ c.requires.nothing refl (loses (connection_of c.args.self.now) _ (ap (λ x. record (connection_of c.args.self.now) { stage = x }) c.lost-self.ensures))
    (λ executes t. none_told_lost c.args.self.now.stage executes (subst HasTold c.lost-self.ensures t))
    refl c.in-Err-Gone.ensures.untold
    (quiet g.L.Outgoing.sent _ _ _ _ (still _ _ refl refl refl) c.in-Err-Gone.ensures.untold)

pub returns-in-Err-Memory-clause-tells : goal.returns-in-Err-Memory-clause-tells
returns-in-Err-Memory-clause-tells g c =
    tells_later g.L.Outgoing.sent c.args.notice c.args.self.now _ _ _
    (quiet g.L.Outgoing.sent _ _ _ _ (still _ _ refl refl refl) c.in-Err-Memory.ensures.untold)
    (keeps_same (connection_of c.args.self.now) _ refl)
    (λ h. h)
    (concludes_quietly g.L.Outgoing.sent _ _ _ _ refl c.in-Err-Memory.ensures.untold
    (λ t. t))
    (λ executes. again_so (connection_of c.args.self.now) _ c.args.self.now.waiting (Taken (Direct c.args.notice)) (Direct c.args.notice) executes c.requires.first refl (ap (λ x. record (connection_of c.args.self.now) { acts = x }) c.put_back.ensures) c.requires.nothing)

pub returns-then-is_cut_off-clause-few : goal.returns-then-is_cut_off-clause-few
returns-then-is_cut_off-clause-few g c = sends_none g.L.Outgoing.sent _ _ _ refl

pub returns-in-Ok-clause-few : goal.returns-in-Ok-clause-few
returns-in-Ok-clause-few g c = sends_one g.L.Outgoing.sent _ _ _ c.in-Ok.ensures.told

pub returns-in-Err-Gone-clause-few : goal.returns-in-Err-Gone-clause-few
returns-in-Err-Gone-clause-few g c = sends_none g.L.Outgoing.sent _ _ _ c.in-Err-Gone.ensures.untold

pub returns-in-Err-Memory-clause-few : goal.returns-in-Err-Memory-clause-few
returns-in-Err-Memory-clause-few g c = sends_none g.L.Outgoing.sent _ _ _ c.in-Err-Memory.ensures.untold
