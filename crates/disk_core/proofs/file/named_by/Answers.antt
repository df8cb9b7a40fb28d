use Rattle.std.proofs.Common.{◌∙◌, Option, [], ◌∷◌, ap, refl}
use Rattle.std.proofs.lemmas.Bool.{false≢true}
use Rattle.disk_core.specs.Syncing.Names.{is_spared, is_looked_at}
use Rattle.disk_core.specs.declared.naming.Noted.{Noted}
use Rattle.disk_core.specs.declared.synced_file.FileEvent.TheVariants.{FolderIs, PathIs, WrittenAt}
use Rattle.disk_core.proofs.Events.{then}
use Rattle.disk_core.proofs.file.named_by.Goals as goal

pub returns-then-stands : goal.returns-then-stands
returns-then-stands g c = λ honest.
    let asked = c.in_ok-changed.ensures honest in
    let watched = ap (λ (folder : Option Noted). FolderIs folder ∷ []) c.in-Some.is in
    let stands = c.if-stands.ensures.stands.0 refl in
    record {
      ok = (FolderIs c.in_ok-changed.field-0 ∷ [], is_spared c.in-Some.changed stands c.if-stands.ensures.counted watched refl, asked.ok, asked.cause.ok);
      err = tt;
    }

pub returns : goal.returns
returns g c = λ honest.
    let asked = c.in_ok-changed.ensures honest in
    let named = c.in_ok-named.ensures asked.honest in
    let written = c.in_ok-written.ensures named.honest in
    let rest = PathIs c.in_ok-named.named ∷ WrittenAt c.in_ok-written.written ∷ [] in
    let watched = ap (λ (folder : Option Noted). FolderIs folder ∷ rest) c.in-Some.is in
    record {
      ok = (
        FolderIs c.in_ok-changed.field-0 ∷ rest,
        is_looked_at c.in-Some.changed c.in_ok-written.written c.is_named.result c.of.result (λ stands. false≢true (c.if-stands.ensures.stands.1 stands)) c.is_named.ensures c.of.ensures refl watched,
        then _ _ _ rest _ asked.ok (then _ _ _ _ _ named.ok written.ok),
        written.cause.ok ∙ named.cause.ok ∙ asked.cause.ok,
      );
      err = tt;
    }
