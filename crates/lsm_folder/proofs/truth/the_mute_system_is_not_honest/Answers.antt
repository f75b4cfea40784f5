use Rattle.std.proofs.Common.{◌≡◌, ℕ, List, [], ◌∷◌, length, take, drop, ap, arith}
use Rattle.std.specs.Prelude.{Ok}
use Rattle.lsm_folder.specs.Calls.{AreHonest, Call, read}
use Rattle.lsm_folder.specs.SystemFolder.{system_calls}
use Rattle.lsm_folder.specs.Truth.{TellsTruth}
use Rattle.lsm_folder.specs.declared.seen_log.SeenLog.{SeenLog}
use Rattle.lsm_folder.specs.declared.system_folder.SystemFolder.{SystemFolder}
use Rattle.lsm_folder.specs.declared.witness.Witness as Witness
use Rattle.lsm_folder.proofs.truth.the_mute_system_is_not_honest.Goals as goal

abbrev no_byte : List ℕ
no_byte = []

abbrev a_byte : List ℕ
a_byte = 0 ∷ []

-- a read of one byte behind the end
abbrev lie : Call
lie = read no_byte no_byte 0 1 (Ok a_byte)

differ : a_byte ≡ take 1 (drop 0 no_byte) → ⊥
differ e = absurd (let n : 1 ≡ 0 = ap length e in omega arith)

-- Where the witness can't tell the truth, any list of calls is one of such a folder
abbrev lying : {W K : Type 0} {w : Witness.Ghosts W K} → (TellsTruth w.happened → ⊥) → SeenLog W K w → SeenLog W K w
lying mute s = record s { log = record s.log { calls = lie ∷ [] }; honest = λ t. absurd (mute t) }

refuted : {R W D K : Type 0} {w : Witness.Ghosts W K} → (TellsTruth w.happened → ⊥) → (f : SystemFolder R W D K w) → AreHonest {C = SystemFolder R W D K w} system_calls → ⊥
refuted mute f h = differ (h.last (record f { seen = lying mute f.seen }))

pub returns : goal.returns
returns g c h = refuted (λ t. differ (t no_byte 0 1 a_byte tt)) c.args.folder.now h
