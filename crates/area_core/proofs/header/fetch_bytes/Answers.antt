use Rattle.area_core.proofs.Unwritten.{reads_yet}
use Rattle.area_core.proofs.header.fetch_bytes.Goals as goal

pub returns-in_err-bytes-clause-reads : goal.returns-in_err-bytes-clause-reads
returns-in_err-bytes-clause-reads g c = reads_yet g.D.Disk c.args.disk.now (g.met.D.Disk.only_now c.args.disk.now)
