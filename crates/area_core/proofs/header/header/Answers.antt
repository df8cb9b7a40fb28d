use Rattle.std.proofs.Common.{rules}
use Rattle.area_core.proofs.Unwritten.{reads_yet}
use Rattle.area_core.proofs.Walked.{reads_then}
use Rattle.area_core.proofs.header.header.Goals as goal

pub returns-then-all-lt32-clause-reads : goal.returns-then-all-lt32-clause-reads
returns-then-all-lt32-clause-reads g c = reads_yet g.D.Disk c.args.disk.now (g.met.D.Disk.only_now c.args.disk.now)

pub returns-in_err-fetch-2-clause-reads : goal.returns-in_err-fetch-2-clause-reads
returns-in_err-fetch-2-clause-reads g c = reads_then g.D.Disk c.args.disk.now c.fetch.new.disk c.fetch-2.new.disk c.fetch.ensures.reads c.fetch-2.ensures.reads

pub returns-then-not-are_digits-clause-reads : goal.returns-then-not-are_digits-clause-reads
returns-then-not-are_digits-clause-reads g c = reads_then g.D.Disk c.args.disk.now c.fetch.new.disk c.fetch-2.new.disk c.fetch.ensures.reads c.fetch-2.ensures.reads

pub returns-in_err-size-clause-reads : goal.returns-in_err-size-clause-reads
returns-in_err-size-clause-reads g c = reads_then g.D.Disk c.args.disk.now c.fetch-2.new.disk c.fetch_number.new.disk (reads_then g.D.Disk c.args.disk.now c.fetch.new.disk c.fetch-2.new.disk c.fetch.ensures.reads c.fetch-2.ensures.reads) c.fetch_number.ensures.reads

pub returns-then-size-lt4096-clause-reads : goal.returns-then-size-lt4096-clause-reads
returns-then-size-lt4096-clause-reads g c = reads_then g.D.Disk c.args.disk.now c.fetch-2.new.disk c.fetch_number.new.disk (reads_then g.D.Disk c.args.disk.now c.fetch.new.disk c.fetch-2.new.disk c.fetch.ensures.reads c.fetch-2.ensures.reads) c.fetch_number.ensures.reads

pub returns-in_err-fetch-3-clause-reads : goal.returns-in_err-fetch-3-clause-reads
returns-in_err-fetch-3-clause-reads g c = reads_then g.D.Disk c.args.disk.now c.fetch_number.new.disk c.fetch-3.new.disk (reads_then g.D.Disk c.args.disk.now c.fetch-2.new.disk c.fetch_number.new.disk (reads_then g.D.Disk c.args.disk.now c.fetch.new.disk c.fetch-2.new.disk c.fetch.ensures.reads c.fetch-2.ensures.reads) c.fetch_number.ensures.reads) c.fetch-3.ensures.reads

pub returns-clause-reads : goal.returns-clause-reads
returns-clause-reads g c = reads_then g.D.Disk c.args.disk.now c.fetch_number.new.disk c.fetch-3.new.disk (reads_then g.D.Disk c.args.disk.now c.fetch-2.new.disk c.fetch_number.new.disk (reads_then g.D.Disk c.args.disk.now c.fetch.new.disk c.fetch-2.new.disk c.fetch.ensures.reads c.fetch-2.ensures.reads) c.fetch_number.ensures.reads) c.fetch-3.ensures.reads

pub returns-clause-journal : goal.returns-clause-journal
returns-clause-journal g c = search rules

pub returns-clause-most : goal.returns-clause-most
returns-clause-most g c = search rules

pub returns-clause-room : goal.returns-clause-room
returns-clause-room g c = search rules

pub returns-then-size-lt4096-clause-refused : goal.returns-then-size-lt4096-clause-refused
returns-then-size-lt4096-clause-refused g c = search rules
