-- Requests as contracts see them, without where their bytes lie.
use Rattle.std.specs.Option.{option_map}
use Rattle.lsm_frames.specs.declared.bounds.Bounds.{Bounds}
use Rattle.lsm_frames.specs.declared.range.Range.{Range}
use Rattle.lsm_frames.specs.declared.write.Write.{Write}
use Rattle.lsm_frames.specs.declared.request.Request.{Request}
use Rattle.lsm_frames.specs.declared.request.Request.TheVariants as request
use Rattle.lsm_frames.specs.Requests.{Asked, Between, Stretch, Written, Writes, Reads, Scans}
use Rattle.lsm_frames.specs.Requests.{Snapshots, Releases, Compacts, CompactsRange, Collects}
use Rattle.lsm_frames.specs.Requests.{Statistics}

abbrev pub written_of : Write → Written
written_of w = record { key = w.key.now; value = option_map (λ v. v.now) w.value }

abbrev pub stretch_of : Range → Stretch
stretch_of r = record {
  when = r.when;
  from = r.from.now;
  to = option_map (λ k.
      k.now) r.to;
  limit = r.limit;
}

abbrev pub between_of : Bounds → Between
between_of b = record { from = b.from.now; to = option_map (λ k. k.now) b.to }

abbrev pub asked_of : Request → Asked
asked_of (request.Write writes) = Writes writes
asked_of (request.Read when keys) = Reads when keys
asked_of (request.Scan range) = Scans (stretch_of range)
asked_of request.Snapshot = Snapshots
asked_of (request.Release number) = Releases number
asked_of request.Compact = Compacts
asked_of (request.CompactRange bounds) = CompactsRange (between_of bounds)
asked_of request.Collect = Collects
asked_of request.Statistics = Statistics
