use Rattle.std.proofs.Common.{inl, refl}
use Rattle.lsm_directory.specs.declared.faults.directory_fault.DirectoryFault.TheVariants.{
  OutOfMemory,
}
use Rattle.lsm_commands.proofs.NoteLaws.{noted_at, refused_at, unseen_at, unseen_stops}
use Rattle.lsm_commands.proofs.noting.note_at.Goals as goal

pub returns-in_default-clause-done : goal.returns-in_default-clause-done
returns-in_default-clause-done g c =
    unseen_at g.C.FolderCalls c.args.path.now c.args.logs c.args.strict OutOfMemory (inl refl)
    c.note_unseen.result (g.E.Write.contents c.args.err.now)
    (g.E.Write.contents c.note_unseen.new.err) c.note_unseen.ensures.left

pub returns-in_default-clause-refused : goal.returns-in_default-clause-refused
returns-in_default-clause-refused g c =
    unseen_stops g.C.FolderCalls c.args.path.now c.args.logs c.args.strict OutOfMemory (inl refl)
    c.note_unseen.result c.note_unseen.ensures.refused

pub returns-in-Ok-see-clause-done : goal.returns-in-Ok-see-clause-done
returns-in-Ok-see-clause-done g c =
    noted_at g.C.FolderCalls c.args.path.now c.args.logs c.args.strict c.in-Ok-see.seen.0
    c.in-Ok-see.seen.1 c.in-Ok-see.ensures.seen c.note_seen.result
    (g.E.Write.contents c.args.err.now) (g.E.Write.contents c.note_seen.new.err)
    c.note_seen.ensures.whole c.note_seen.ensures.noted

pub returns-in-Ok-see-clause-refused : goal.returns-in-Ok-see-clause-refused
returns-in-Ok-see-clause-refused g c =
    refused_at g.C.FolderCalls c.args.path.now c.args.logs c.args.strict c.in-Ok-see.seen.0
    c.in-Ok-see.seen.1 c.in-Ok-see.ensures.seen c.note_seen.result c.note_seen.ensures.refused

pub returns-clause-done : goal.returns-clause-done
returns-clause-done g c =
    unseen_at g.C.FolderCalls c.args.path.now c.args.logs c.args.strict c.in-Err.fault
    c.in-Err.ensures.unseen c.note_unseen-in-Err.result (g.E.Write.contents c.args.err.now)
    (g.E.Write.contents c.note_unseen-in-Err.new.err) c.note_unseen-in-Err.ensures.left

pub returns-clause-refused : goal.returns-clause-refused
returns-clause-refused g c =
    unseen_stops g.C.FolderCalls c.args.path.now c.args.logs c.args.strict c.in-Err.fault
    c.in-Err.ensures.unseen c.note_unseen-in-Err.result c.note_unseen-in-Err.ensures.refused
