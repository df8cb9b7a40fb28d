use Rattle.std.proofs.Common.{◌∙◌, ◌++◌, ap, codes}
use Rattle.json_line.specs.Objects.{number_member, text_member}
use Rattle.journal_files.proofs.Gathered.{on_ok}
use Rattle.journal_files.proofs.Listed.{three_added}
use Rattle.journal_files.proofs.sessions.put_standing.Goals as goal

pub returns : goal.returns
returns c =
    let mode = c.in_ok-put_text.ensures in
    let name = c.in_ok-put_durable.ensures in (
      c.put_number.ensures.0 ∙ name.0 ∙ mode.0,
      on_ok c.put_number.result _ _ c.put_number.ensures.1
          (λ last. three_added _ _ _ _ _ _ _
          (mode.1 ∙ ap (λ text. c.args.out.now.tokens ++ text_member (codes "ack") text) c.text_of_mode.ensures)
          name.1
          (last ∙ ap (λ n. c.put_durable.new.out.tokens ++ number_member (codes "unacknowledged") n) c.len.ensures.count)),
    )
