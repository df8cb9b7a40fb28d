use Rattle.std.proofs.Common.{◌≡◌, ◌+◌, ℕ, List, length, take, drop, IfErr, sym, ◌∙◌, ap, subst, arith, rules}
use Rattle.std.specs.Int.{w64, to_be_bytes}
use Rattle.area_core.specs.Areas.{word_of}
use Rattle.area_core.specs.Journals.{is_odd, start}
use Rattle.area_core.proofs.Areas.{length-fresh}
use Rattle.area_core.specs.Damage.{IsWordTold}
use Rattle.area_core.proofs.Walked.{front_read, front_told, reads_then}
use Rattle.area_core.proofs.area.Area.front.Goals as goal

pub returns-clause-front : goal.returns-clause-front
returns-clause-front g c honest =
    let content = g.D.Disk.content c.args.disk.now in
    let base = start c.in_ok-size.size (is_odd c.in_ok-size.selector) in
    let v = c.in_ok-snapshot.snapshot.items in
    let honest_1 = c.header.ensures.reads.honest honest in
    let honest_2 = c.first_word.ensures.reads.honest honest_1 in
    let same_1 : g.D.Disk.content c.header.new.disk ≡ content = (c.header.ensures.reads.quiet honest).content in
    let same_2 : g.D.Disk.content c.first_word.new.disk ≡ content = (c.first_word.ensures.reads.quiet honest_1).content ∙ same_1 in
    let size : length v ≡ c.in_ok-version.length = c.in_ok-snapshot.ensures.length in
    let at : c.begins-base.result ≡ base = c.begins-base.ensures in
    let version = c.in_ok-version.version in
    let first : take 8 (drop base content) ≡ to_be_bytes w64 (word_of version (length v)) =
    ap (λ (n : ℕ). take 8 (drop n content)) (sym at) ∙ ap (λ (l : List ℕ). take 8 (drop c.begins-base.result l)) (sym same_1) ∙ c.in_ok-version.ensures.told honest_1 ∙ ap (λ (n : ℕ). to_be_bytes w64 (word_of version n)) (sym size) in
    let second : take (length v) (drop (base + 8) content) ≡ v =
    ap (λ (n : ℕ). take (length v) (drop (n + 8) content)) (sym at) ∙ ap (λ (l : List ℕ). take (length v) (drop (c.begins-base.result + 8) l)) (sym same_2)
    ∙ ap (λ (n : ℕ). take n (drop (c.begins-base.result + 8) (g.D.Disk.content c.first_word.new.disk))) size ∙ c.in_ok-snapshot.ensures.bytes honest_2 in
    record {
      journal = c.in_ok-size.ensures.journal honest;
      rest = drop (8 + length v) (drop base content);
      whole = front_read version base content v first second;
      gate = omega (arith, size, length-fresh version v);
      seven = omega (arith, size, c.in_ok-version.ensures.seven);
      each = tt;
    }

pub returns-in_err-version-clause-reads : goal.returns-in_err-version-clause-reads
returns-in_err-version-clause-reads g c = reads_then g.D.Disk c.args.disk.now c.header.new.disk c.first_word.new.disk c.header.ensures.reads c.first_word.ensures.reads

pub returns-in_err-snapshot-clause-reads : goal.returns-in_err-snapshot-clause-reads
returns-in_err-snapshot-clause-reads g c = reads_then g.D.Disk c.args.disk.now c.first_word.new.disk c.fetch_bytes.new.disk (reads_then g.D.Disk c.args.disk.now c.header.new.disk c.first_word.new.disk c.header.ensures.reads c.first_word.ensures.reads) c.fetch_bytes.ensures.reads

pub returns-clause-reads : goal.returns-clause-reads
returns-clause-reads g c = reads_then g.D.Disk c.args.disk.now c.first_word.new.disk c.fetch_bytes.new.disk (reads_then g.D.Disk c.args.disk.now c.header.new.disk c.first_word.new.disk c.header.ensures.reads c.first_word.ensures.reads) c.fetch_bytes.ensures.reads

pub returns-in_err-version-clause-refused : goal.returns-in_err-version-clause-refused
returns-in_err-version-clause-refused g c honest =
    let content = g.D.Disk.content c.args.disk.now in
    let base = c.begins-base.result in
    let same : g.D.Disk.content c.header.new.disk ≡ content = (c.header.ensures.reads.quiet honest).content in
    front_told c.in_ok-size.size c.in_ok-size.selector base content c.from_residual-in_err-version.result (c.in_ok-size.ensures.journal honest) c.begins-base.ensures
    (subst (λ (l : List ℕ). IfErr c.from_residual-in_err-version.result (λ fault. IsWordTold fault base c.in_ok-size.size l)) same (search rules))
