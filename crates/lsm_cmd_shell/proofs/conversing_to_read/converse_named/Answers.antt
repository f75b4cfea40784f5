use Rattle.std.proofs.Common.{◌≡◌, ℕ, Bool, List, Option, Ok, Err, ap, inl, inr, refl, subst}
use Rattle.std.specs.Prelude.{Result}
use Rattle.std.proofs.KnownBytes.{Keeps-refl}
use Rattle.lsm_shelf.specs.Told.{Told}
use Rattle.lsm_state.specs.Held.{Held}
use Rattle.lsm_text.specs.declared.form.Form.{Form}
use Rattle.lsm_directory.specs.declared.folder.named_manifest.NamedManifest.{NamedManifest}
use Rattle.lsm_script.specs.Steps.{OnDesk, Stage, clear, stage, stage_of}
use Rattle.lsm_opening.specs.Reading.{OnlyReads, OpensToRead}
use Rattle.lsm_opening.proofs.CallerLemmas.{reads_later}
use Rattle.lsm_cmd_shell.specs.Reading.{ConversesToRead}
use Rattle.lsm_cmd_shell.specs.Talk.{IsTalk}
use Rattle.lsm_cmd_shell.specs.declared.talk_fault.TalkFault.{TalkFault}
use Rattle.lsm_cmd_shell.proofs.UnwrittenLaws.{talk_reads}
use Rattle.lsm_cmd_shell.proofs.conversing_to_read.converse_named.Goals as goal

converses : (honest : Type 0) (form : Form) (bails : Bool) (input : Option (List ℕ))
    (r : Result (Unit {0}) TalkFault) (was mid : Told) (old new : Option (List ℕ))
    (m : NamedManifest) (state : Held) (desk : OnDesk) (last : Stage)
    → OpensToRead honest m state was mid → desk ≡ clear
    → IsTalk honest form bails input r (stage state desk mid) last old new
    → ConversesToRead honest form bails input r was last.told old new
converses honest form bails input r was mid old new m state desk last opened none talk =
    let same = subst
    (λ (d : OnDesk). IsTalk honest form bails input r (stage state d mid) last old new)
    none talk in
    record {
      manifest = m;
      state = state;
      mid = mid;
      opened = opened;
      last = last;
      talk = same;
      unwritten = talk_reads honest form bails input r (stage_of state mid) last old new same
          (ap (λ (h : Held). h.halted) opened.opened.state, refl);
      told = refl;
    }

reads : (honest : Type 0) (form : Form) (bails : Bool) (input : Option (List ℕ))
    (r : Result (Unit {0}) TalkFault) (was mid : Told) (old new : Option (List ℕ))
    (m : NamedManifest) (state : Held) (desk : OnDesk) (last : Stage)
    → OpensToRead honest m state was mid → desk ≡ clear
    → IsTalk honest form bails input r (stage state desk mid) last old new
    → OnlyReads was mid → OnlyReads was last.told
reads honest form bails input r was mid old new m state desk last opened none talk before =
    let unwritten = talk_reads honest form bails input r (stage state desk mid) last old new talk (
      ap (λ (h : Held). h.halted) opened.opened.state,
      ap (λ (d : OnDesk). d.jobs) none,
    ) in
    reads_later was mid last.told before unwritten.told

pub returns-in-Err-clause-fault : goal.returns-in-Err-clause-fault
returns-in-Err-clause-fault g c =
    inr (inl (c.in-Err.fault, c.of_writer.ensures, c.in-Err.ensures.refused, Keeps-refl _))

pub returns-in-Err-new-clause-fault : goal.returns-in-Err-new-clause-fault
returns-in-Err-new-clause-fault g c = inl (
  c.of_writer-in-Err-new.ensures,
  Keeps-refl _,
  inr (c.in-Ok.opened.1, c.in-Ok.opened.0, c.in-Ok.ensures.opened),
)

pub returns-in-Ok-talk-clause-done : goal.returns-in-Ok-talk-clause-done
returns-in-Ok-talk-clause-done g c =
    converses g.S.Shelf.honest c.args.form c.args.bails c.args.lines.now.left (Ok tt)
    c.args.shelf.now c.open_to_read.new.shelf (g.O.Write.contents c.args.out.now)
    (g.O.Write.contents c.talk.new.out) c.in-Ok.opened.1 c.in-Ok.opened.0 c.in-Ok-new.desk
    (stage c.talk.new.state c.talk.new.desk c.talk.new.shelf) c.in-Ok.ensures.opened
    c.in-Ok-new.ensures.clear (rw c.in-Ok-talk.is at c.talk.ensures.talk)

pub returns-in-Ok-talk-clause-reads : goal.returns-in-Ok-talk-clause-reads
returns-in-Ok-talk-clause-reads g c =
    reads g.S.Shelf.honest c.args.form c.args.bails c.args.lines.now.left c.talk.result
    c.args.shelf.now c.open_to_read.new.shelf (g.O.Write.contents c.args.out.now)
    (g.O.Write.contents c.talk.new.out) c.in-Ok.opened.1 c.in-Ok.opened.0 c.in-Ok-new.desk
    (stage c.talk.new.state c.talk.new.desk c.talk.new.shelf) c.in-Ok.ensures.opened
    c.in-Ok-new.ensures.clear c.talk.ensures.talk c.open_to_read.ensures.reads

pub returns-clause-fault : goal.returns-clause-fault
returns-clause-fault g c = inr (inr (
  c.in-Err-talk.fault,
  c.of_talk.ensures,
  converses g.S.Shelf.honest c.args.form c.args.bails c.args.lines.now.left
      (Err c.in-Err-talk.fault) c.args.shelf.now c.open_to_read.new.shelf
      (g.O.Write.contents c.args.out.now) (g.O.Write.contents c.talk.new.out) c.in-Ok.opened.1
      c.in-Ok.opened.0 c.in-Ok-new.desk
      (stage c.talk.new.state c.talk.new.desk c.talk.new.shelf) c.in-Ok.ensures.opened
      c.in-Ok-new.ensures.clear (rw c.in-Err-talk.is at c.talk.ensures.talk),
))

pub returns-clause-reads : goal.returns-clause-reads
returns-clause-reads g c =
    reads g.S.Shelf.honest c.args.form c.args.bails c.args.lines.now.left c.talk.result
    c.args.shelf.now c.open_to_read.new.shelf (g.O.Write.contents c.args.out.now)
    (g.O.Write.contents c.talk.new.out) c.in-Ok.opened.1 c.in-Ok.opened.0 c.in-Ok-new.desk
    (stage c.talk.new.state c.talk.new.desk c.talk.new.shelf) c.in-Ok.ensures.opened
    c.in-Ok-new.ensures.clear c.talk.ensures.talk c.open_to_read.ensures.reads
