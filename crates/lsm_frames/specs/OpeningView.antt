-- Openings as contracts see them, without where their bytes lie.
use Rattle.lsm_frames.specs.declared.opening.Opening.{Opening}
use Rattle.lsm_frames.specs.declared.opening.OpeningFields.{OpeningFields}
use Rattle.lsm_frames.specs.Openings.{Opened}

abbrev pub opened_of : Opening → Opened
opened_of o = record {
  first = o.first_channel;
  channels = o.channels;
  workers = o.workers;
  make = o.make;
  refuse = o.refuse;
  path = o.path.now;
}

abbrev pub fields_of : OpeningFields → Opened
fields_of o = record {
  first = o.first_channel;
  channels = o.channels;
  workers = o.workers;
  make = o.make;
  refuse = o.refuse;
  path = o.path.now;
}
