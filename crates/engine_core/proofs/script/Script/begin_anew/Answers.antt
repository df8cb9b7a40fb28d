use Rattle.std.proofs.Common.{◌++◌, ◌∙◌, ap, refl, subst, sym, string_bytes}
use Rattle.engine_core.specs.Scripts.{Opens, open_text}
use Rattle.engine_core.specs.declared.script.Script.TheVariants.{Running, Stopped}
use Rattle.engine_core.proofs.script.Script.begin_anew.Goals as goal

pub returns-in-Ok-clause-ok : goal.returns-in-Ok-clause-ok
returns-in-Ok-clause-ok c =
    let made = c.in-Ok.ensures in
    let journal = c.in-Ok.journal in
    subst (λ s. Opens (Stopped c.args.disk) (string_bytes c.open_journal.new.text) s) (sym (c.replace.ensures.after ∙ ap Running c.over.ensures))
    (record {
      state = journal.state;
      disk = journal.disk;
      opened = made.opened;
      reopens = tt;
      same_text = made.text ∙ ap (λ old. old ++ open_text journal.state) c.new-text.ensures.bytes;
      after = refl;
    })
