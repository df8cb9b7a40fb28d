use Rattle.std.proofs.Common.{◌≡◌, ap, refl}
use Rattle.command_line.proofs.Nothing.{file_fails, help_fails, shown_finishes, version_finishes}
use Rattle.command_line.specs.declared.parsing.Subcommand.TheVariants as subcommands
use Rattle.command_line.proofs.program.run.Goals as goal

pub returns-in-Ok-Version-clause-finishes : goal.returns-in-Ok-Version-clause-finishes
returns-in-Ok-Version-clause-finishes g c =
    version_finishes c.version.result _ c.in-Ok-Version.field-0 _ _ _ c.in-Ok-Version.ensures.ok c.in-Ok-Version.field-0-is
    (λ script. let e = c.in-Ok-Version.ensures.script script in cc) c.version.ensures.ok

pub returns-in-Ok-Help-clause-finishes : goal.returns-in-Ok-Help-clause-finishes
returns-in-Ok-Help-clause-finishes g c =
    shown_finishes c.help.result _ c.in-Ok-Help.field-0 subcommands.Help _ _ _ _ c.in-Ok-Help.ensures.ok c.in-Ok-Help.field-0-is (λ e. cc)
    (λ script. let e = c.in-Ok-Help.ensures.script script in cc) (λ done. (refl, done)) c.help.ensures.ok

pub returns-in-Ok-Help-clause-fails : goal.returns-in-Ok-Help-clause-fails
returns-in-Ok-Help-clause-fails g c =
    help_fails c.help.result _ _ _ _ (c.help.new.writer ≡ c.args.writer.now) (λ script. let is = c.in-Ok-Help.field-0-is in let e = c.in-Ok-Help.ensures.script script in cc)
    (λ same. ap g.W.Write.contents same) c.help.ensures.err

pub returns-in-Ok-Show-clause-finishes : goal.returns-in-Ok-Show-clause-finishes
returns-in-Ok-Show-clause-finishes g c =
    shown_finishes c.show_file.result _ c.in-Ok-Show.field-0 (subcommands.Show c.in-Ok-Show.file c.in-Ok-Show.is_json) _ _ _ _ c.in-Ok-Show.ensures.ok c.in-Ok-Show.field-0-is (λ e. cc)
    (λ script. let e = c.in-Ok-Show.ensures.script script in cc) (λ done. (refl, done)) c.show_file.ensures.ok

pub returns-in-Ok-Show-clause-fails : goal.returns-in-Ok-Show-clause-fails
returns-in-Ok-Show-clause-fails g c =
    file_fails c.show_file.result _ _ _ _ (c.show_file.new.writer ≡ c.args.writer.now) (λ script. let is = c.in-Ok-Show.field-0-is in let e = c.in-Ok-Show.ensures.script script in cc)
    (λ same. ap g.W.Write.contents same) c.show_file.ensures.err

pub returns-in-Ok-Held-clause-finishes : goal.returns-in-Ok-Held-clause-finishes
returns-in-Ok-Held-clause-finishes g c =
    shown_finishes c.held_file.result _ c.in-Ok-Held.field-0 (subcommands.Held c.in-Ok-Held.file c.in-Ok-Held.is_json) _ _ _ _ c.in-Ok-Held.ensures.ok c.in-Ok-Held.field-0-is (λ e. cc)
    (λ script. let e = c.in-Ok-Held.ensures.script script in cc) (λ done. (refl, done)) c.held_file.ensures.ok

pub returns-in-Ok-Held-clause-fails : goal.returns-in-Ok-Held-clause-fails
returns-in-Ok-Held-clause-fails g c =
    file_fails c.held_file.result _ _ _ _ (c.held_file.new.writer ≡ c.args.writer.now) (λ script. let is = c.in-Ok-Held.field-0-is in let e = c.in-Ok-Held.ensures.script script in cc)
    (λ same. ap g.W.Write.contents same) c.held_file.ensures.err

pub returns-in-Ok-Sessions-clause-finishes : goal.returns-in-Ok-Sessions-clause-finishes
returns-in-Ok-Sessions-clause-finishes g c =
    shown_finishes c.sessions_file.result _ c.in-Ok-Sessions.field-0 (subcommands.Sessions c.in-Ok-Sessions.file c.in-Ok-Sessions.is_json) _ _ _ _ c.in-Ok-Sessions.ensures.ok c.in-Ok-Sessions.field-0-is (λ e. cc)
    (λ script. let e = c.in-Ok-Sessions.ensures.script script in cc) (λ done. (refl, done)) c.sessions_file.ensures.ok

pub returns-in-Ok-Sessions-clause-fails : goal.returns-in-Ok-Sessions-clause-fails
returns-in-Ok-Sessions-clause-fails g c =
    file_fails c.sessions_file.result _ _ _ _ (c.sessions_file.new.writer ≡ c.args.writer.now) (λ script. let is = c.in-Ok-Sessions.field-0-is in let e = c.in-Ok-Sessions.ensures.script script in cc)
    (λ same. ap g.W.Write.contents same) c.sessions_file.ensures.err

pub returns-in-Ok-Copy-clause-finishes : goal.returns-in-Ok-Copy-clause-finishes
returns-in-Ok-Copy-clause-finishes g c =
    shown_finishes c.copy_journal.result _ c.in-Ok-Copy.field-0 (subcommands.Copy c.in-Ok-Copy.file c.in-Ok-Copy.copy c.in-Ok-Copy.bytes c.in-Ok-Copy.is_sparse) _ _ _ _ c.in-Ok-Copy.ensures.ok c.in-Ok-Copy.field-0-is (λ e. cc)
    (λ script. let e = c.in-Ok-Copy.ensures.script script in cc) (λ enough. (enough, (refl, refl))) c.copy_journal.ensures.ok
