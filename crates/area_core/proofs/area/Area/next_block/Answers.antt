use Rattle.std.proofs.Common.{rules, ◌≡◌, ◌≢◌, ◌+◌, ◌≤◌, [], ◌∷◌, ℕ, List, length, take, drop, sym, ◌∙◌, ap, arith}
use Rattle.std.specs.Int.{w64, to_be_bytes}
use Rattle.area_core.specs.Areas.{IsBlock, records}
use Rattle.area_core.specs.Journals.{is_odd, start}
use Rattle.area_core.proofs.Areas.{all_push, length-pushed}
use Rattle.area_core.proofs.Journals.{start_most}
use Rattle.area_core.proofs.Walked.{reads_then, single, closes, block_next, is_block}
use Rattle.area_core.proofs.area.Area.next_block.Goals as goal

pub returns-then-gate-ne1-clause-block : goal.returns-then-gate-ne1-clause-block
returns-then-gate-ne1-clause-block g c honest snapshot blocks past =
    let it = c.args.self.now in
    let content = g.D.Disk.content c.args.disk.now in
    let base = start it.size (is_odd it.selector) in
    let room : base + it.size ≤ length content = omega (arith, c.requires.room, start_most it.size (is_odd it.selector)) in
    let read : c.fetch.new.into ≡ take 1 (drop (base + it.gate) content) = c.in_ok-fetch.ensures.bytes honest ∙ ap (λ (n : ℕ). take 1 (drop (n + it.gate) content)) c.begins.ensures in
    record {
      reads = record { journal = past.journal; area = closes it.version it.size base it.gate snapshot blocks past.rest content c.fetch.new.into past.whole past.gate past.seven it.within room past.each read c.if-gate-ne1.true };
      gate = past.gate;
    }

pub returns-clause-block : goal.returns-clause-block
returns-clause-block g c honest snapshot blocks past =
    let it = c.args.self.now in
    let content = g.D.Disk.content c.args.disk.now in
    let base = start it.size (is_odd it.selector) in
    let v = c.in_ok-bytes.bytes.items in
    let cs = c.in_ok-commands.commands.items in
    let count : ℕ = c.in_ok-count.count in
    let honest_1 = c.fetch.ensures.reads.honest honest in
    let honest_2 = c.block_len.ensures.reads.honest honest_1 in
    let same_1 : g.D.Disk.content c.fetch.new.disk ≡ content = (c.fetch.ensures.reads.quiet honest).content in
    let same_2 : g.D.Disk.content c.block_len.new.disk ≡ content = (c.block_len.ensures.reads.quiet honest_1).content ∙ same_1 in
    let size : length v ≡ count = c.in_ok-bytes.ensures.length in
    let at : c.begins.result + it.gate ≡ base + it.gate = ap (λ (n : ℕ). n + it.gate) c.begins.ensures in
    let read : c.fetch.new.into ≡ take 1 (drop (base + it.gate) content) = c.in_ok-fetch.ensures.bytes honest ∙ ap (λ (n : ℕ). take 1 (drop n content)) at in
    let one : length c.fetch.new.into ≡ 1 = search rules in
    let first : take 1 (drop (base + it.gate) content) ≡ 1 ∷ [] = sym read ∙ single c.fetch.new.into 1 one c.if-gate-ne1.false in
    let second : take 8 (drop (base + it.gate + 1) content) ≡ to_be_bytes w64 (length v) =
    ap (λ (n : ℕ). take 8 (drop (n + 1) content)) (sym at) ∙ ap (λ (l : List ℕ). take 8 (drop (c.begins.result + it.gate + 1) l)) (sym same_1) ∙ c.in_ok-count.ensures.told honest_1 ∙ ap (λ (n : ℕ). to_be_bytes w64 n) (sym size) in
    let third : take (length v) (drop (base + it.gate + 9) content) ≡ v =
    ap (λ (n : ℕ). take (length v) (drop (n + 9) content)) (sym at) ∙ ap (λ (l : List ℕ). take (length v) (drop (c.begins.result + it.gate + 9) l)) (sym same_2)
    ∙ ap (λ (n : ℕ). take n (drop (c.begins.result + it.gate + 9) (g.D.Disk.content c.block_len.new.disk))) size ∙ c.in_ok-bytes.ensures.bytes honest_2 in
    let are : v ≡ records cs = search rules in
    let long : length v ≡ length (records cs) = ap (λ (l : List ℕ). length l) are in
    let some : length (records cs) ≢ 0 = (λ e. omega (arith, c.in_ok-count.ensures.some, size, long, e)) in
    record {
      journal = past.journal;
      rest = drop (9 + length v) past.rest;
      whole = block_next it.version base it.gate snapshot blocks past.rest content v cs are past.whole past.gate first second third;
      gate = omega (arith, past.gate, size, long, length-pushed it.version snapshot blocks cs);
      seven = past.seven;
      each = all_push IsBlock blocks cs past.each (is_block cs some c.in_ok-commands.ensures.each);
    }

pub returns-in_err-count-clause-reads : goal.returns-in_err-count-clause-reads
returns-in_err-count-clause-reads g c = reads_then g.D.Disk c.args.disk.now c.fetch.new.disk c.block_len.new.disk c.fetch.ensures.reads c.block_len.ensures.reads

pub returns-in_err-bytes-clause-reads : goal.returns-in_err-bytes-clause-reads
returns-in_err-bytes-clause-reads g c = reads_then g.D.Disk c.args.disk.now c.block_len.new.disk c.fetch_bytes.new.disk (reads_then g.D.Disk c.args.disk.now c.fetch.new.disk c.block_len.new.disk c.fetch.ensures.reads c.block_len.ensures.reads) c.fetch_bytes.ensures.reads

pub returns-in_err-commands-clause-reads : goal.returns-in_err-commands-clause-reads
returns-in_err-commands-clause-reads g c = reads_then g.D.Disk c.args.disk.now c.block_len.new.disk c.fetch_bytes.new.disk (reads_then g.D.Disk c.args.disk.now c.fetch.new.disk c.block_len.new.disk c.fetch.ensures.reads c.block_len.ensures.reads) c.fetch_bytes.ensures.reads

pub returns-clause-reads : goal.returns-clause-reads
returns-clause-reads g c = reads_then g.D.Disk c.args.disk.now c.block_len.new.disk c.fetch_bytes.new.disk (reads_then g.D.Disk c.args.disk.now c.fetch.new.disk c.block_len.new.disk c.fetch.ensures.reads c.block_len.ensures.reads) c.fetch_bytes.ensures.reads
