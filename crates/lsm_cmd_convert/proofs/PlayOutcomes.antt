-- What a run answers, by what is done.
use Rattle.std.proofs.Common.{◌≡◌, ◌≢◌, ℕ, ◌+◌, ◌<◌, ◌≤◌, Bool, true, false, List, ◌∷◌, length, get_or, drop, Option, None, Some, refl, sym, ap, ◌∙◌, subst, arith, inl, inr}
use Rattle.std.specs.Prelude.{◌⊎◌, Result, Ok, Err, IfErr, IfOk, IfSome, ⊤}
use Rattle.std.specs.Io.KnownBytes.{Appends, Keeps}
use Rattle.std.proofs.lemmas.List.{drop_more, drop_all}
use Rattle.lsm_codec.specs.Lists.{Has}
use Rattle.lsm_codec.proofs.CallerLemmas.{contains_says}
use Rattle.lsm_journal.specs.Sending.{IsCreateRefusal}
use Rattle.lsm_merge.specs.Work.{Done, Work}
use Rattle.lsm_pins.specs.Known.{Known}
use Rattle.lsm_shelf.specs.Asked.{Asked}
use Rattle.lsm_shelf.specs.Told.{Told, fresh}
use Rattle.lsm_shelf.specs.declared.shelf_fault.ShelfFault.{ShelfFault}
use Rattle.lsm_state.specs.Held.{Held}
use Rattle.lsm_state.specs.Making.{created_state}
use Rattle.lsm_script.specs.History.{History, IsAnswered, IsOf, history_of}
use Rattle.lsm_script.specs.Scripts.{AreReplies, ends_list}
use Rattle.lsm_script.specs.Steps.{IsStep, stage_of}
use Rattle.lsm_script.specs.declared.command.Command.{Command}
use Rattle.lsm_script.specs.declared.reply.Reply.{Reply}
use Rattle.lsm_opening.specs.Parts.{plain}
use Rattle.lsm_opening.specs.Starting.{IsBeginRefusal, IsNewWith}
use Rattle.lsm_opening.specs.WriterFault.{of_shelf}
use Rattle.lsm_opening.specs.declared.faults.writer_fault.WriterFault.{WriterFault}
use Rattle.lsm_opening.specs.declared.faults.writer_fault.WriterFault.TheVariants.{OutOfMemory, Write}
use Rattle.lsm_script.specs.CommandLine.{IsScript}
use Rattle.lsm_cmd_convert.specs.Played.{ArePlayed, ArePlayedInMemory, IsCutShort, IsScriptDone, IsEnded, IsScriptFault, IsInputFault, IsPlayFault, IsScriptRefused, IsScriptTextFault, IsUncreatedInMemory, nothing}
use Rattle.lsm_script.specs.ReplyText.{replies_text}

-- ---- a look for a reply that ends the list

pub cut_at : (rs : List Reply) (i : ℕ) (x : Reply) → i < length rs → x ≡ get_or rs i x → ends_list x ≡ true → IsCutShort rs
cut_at rs i x h e ends = (x, contains_says rs x (i, h, sym e), ends)

pub still_cut : (rs : List Reply) (i : ℕ) (x : Reply) → i < length rs → x ≡ get_or rs i x → ends_list x ≡ false → IsCutShort (drop i rs) → IsCutShort (drop (i + 1) rs)
still_cut rs i x h e goes_on cut =
    let parts : drop i rs ≡ x ∷ drop (i + 1) rs = drop_more rs i x h ∙ ap (λ (y : Reply). y ∷ drop (i + 1) rs) (sym e) in
    let has : Has (x ∷ drop (i + 1) rs) cut.0 = subst (λ (ys : List Reply). Has ys cut.0) parts cut.1 in
    elim has [
      | inl same ↦ let bad : true ≡ false = sym cut.2 ∙ ap ends_list (sym same) ∙ goes_on in absurd cc
      | inr later ↦ (cut.0, later, cut.2)
    ]

pub none_left : (rs : List Reply) (i : ℕ) → length rs ≤ i → IsCutShort (drop i rs) → ⊥
none_left rs i h cut = subst (λ (ys : List Reply). Has ys cut.0) (drop_all i rs h) cut.1

-- ---- a new database

pub not_begun : (Refused : Asked → ShelfFault → Type 0) (e : WriterFault) (was is : Told) → IsBeginRefusal 1 Refused e was is
    → (e ≡ OutOfMemory) ⊎ ((fault : ShelfFault) × (e ≡ of_shelf fault) × IsCreateRefusal fault was is)
not_begun Refused e was is (inl memory) = inl memory.0
not_begun Refused e was is (inr (inl (spent, last, same))) = absurd (omega (arith, last))
not_begun Refused e was is (inr (inr (fault, same, refused, asked, counted))) = inr (fault, same, refused)

created_history : (publisher : Known) (pinners : List Known) → history_of (created_state plain publisher pinners) ≡ nothing
created_history publisher pinners = refl

pub is_played : (honest : Type 0) (commands : List Command) (replies : List Reply) (was mid now : Told) (before after : Held) → IsNewWith plain 1 before was mid
    → ((jobs : List Work) × (results : List Done) × AreReplies (IsStep honest) commands replies (stage_of before mid) record { state = after; told = now; jobs = jobs; results = results })
    → ((t : History) × AreReplies (IsAnswered honest) commands replies (history_of before) t × IsOf honest t after)
    → ArePlayed honest commands replies was
is_played honest commands replies was mid now before after new steps answered =
    let none : history_of before ≡ nothing = ap history_of new.state ∙ created_history new.publisher new.pinners in
    record {
      before = before;
      mid = mid;
      created = new;
      after = record { state = after; told = now; jobs = steps.0; results = steps.1 };
      steps = steps.2;
      history = answered.0;
      answered = subst (λ s. AreReplies (IsAnswered honest) commands replies s answered.0) none answered.1;
    }

pub in_memory : (r : Result (List Reply) WriterFault) (commands : List Command) (was : Told) → was ≡ fresh was.place
    → IfOk r (λ rs. ArePlayed ⊤ commands rs was) → IfOk r (λ rs. ArePlayedInMemory commands rs)
in_memory (Ok rs) commands was e h = (was.place, subst (λ t. ArePlayed ⊤ commands rs t) e h)
in_memory (Err f) commands was e h = tt

pub uncreated : (r : Result (List Reply) WriterFault) (was : Told) → was ≡ fresh was.place
    → IfErr r (λ e. (e ≡ OutOfMemory) ⊎ ((fault : ShelfFault) × (is : Told) × (e ≡ of_shelf fault) × IsCreateRefusal fault was is)) → IfErr r (λ e. (e ≡ OutOfMemory) ⊎ IsUncreatedInMemory e)
uncreated (Ok rs) was e h = tt
uncreated (Err f) was e h = elim h [
  | inl memory ↦ inl memory
  | inr shelf ↦ inr (was.place, shelf.0, shelf.1, shelf.2, subst (λ t. IsCreateRefusal shelf.0 t shelf.1) e shelf.3)
]

-- ---- a run

pub done_is : (known : Option (List ℕ)) (commands : List Command) (replies : List Reply) (old new : Option (List ℕ)) → IfSome known (λ text. IsScript text commands)
    → ArePlayedInMemory commands replies → Appends old new (replies_text replies) → (IsCutShort replies → ⊥) → IfSome known (λ text. IsEnded text 0 old new)
done_is None commands replies old new script played written whole = tt
done_is (Some text) commands replies old new script played written whole =
    inl (refl, (replies, record { commands = commands; spelled = script; played = played; written = written }, whole))

pub cut_is : (known : Option (List ℕ)) (commands : List Command) (replies : List Reply) (old new : Option (List ℕ)) → IfSome known (λ text. IsScript text commands)
    → ArePlayedInMemory commands replies → Appends old new (replies_text replies) → IsCutShort replies → IfSome known (λ text. IsEnded text 1 old new)
cut_is None commands replies old new script played written cut = tt
cut_is (Some text) commands replies old new script played written cut =
    inr (refl, (replies, record { commands = commands; spelled = script; played = played; written = written }, cut))

pub input_fault : (known : Option (List ℕ)) (failed : Bool) (e : WriterFault) → IfSome known (λ text. IsInputFault text failed e) → IfSome known (λ text. IsScriptFault text failed e)
input_fault None failed e h = tt
input_fault (Some text) failed e h = inl h

pub play_fault : (known : Option (List ℕ)) (failed : Bool) (commands : List Command) (e : WriterFault) → IfSome known (λ text. IsScript text commands)
    → (e ≡ OutOfMemory) ⊎ IsUncreatedInMemory e → IfSome known (λ text. IsScriptFault text failed e)
play_fault None failed commands e script h = tt
play_fault (Some text) failed commands e script h = elim h [
  | inl memory ↦ inl (inl (subst (λ f. IsScriptTextFault text f) (sym memory) tt))
  | inr why ↦ inr (commands, script, subst (λ f. IsPlayFault commands f) (sym why.3) (why.0, why.1, why.2, refl, why.4))
]

pub print_fault : (known : Option (List ℕ)) (failed : Bool) (commands : List Command) (replies : List Reply) (e : WriterFault)
    → IfSome known (λ text. IsScript text commands) → ArePlayedInMemory commands replies → (e ≡ Write) ⊎ (e ≡ OutOfMemory) → IfSome known (λ text. IsScriptFault text failed e)
print_fault None failed commands replies e script played h = tt
print_fault (Some text) failed commands replies e script played h = elim h [
  | inl write ↦ inr (commands, script, subst (λ f. IsPlayFault commands f) (sym write) (replies, played))
  | inr memory ↦ inl (inl (subst (λ f. IsScriptTextFault text f) (sym memory) tt))
]

pub keeps_itself : (x : Option (List ℕ)) → Keeps x x
keeps_itself None = tt
keeps_itself (Some xs) = refl

pub ended_done : (known : Option (List ℕ)) (status : ℕ) (old new : Option (List ℕ)) → IfSome known (λ text. IsEnded text status old new) → status ≡ 0
    → IfSome known (λ text. IsScriptDone text old new)
ended_done None status old new h zero = tt
ended_done (Some text) status old new h zero = elim h [
  | inl done ↦ done.1
  | inr cut ↦ absurd (omega (arith, cut.0, zero))
]

pub ended_refused : (known : Option (List ℕ)) (failed : Bool) (status : ℕ) (old new : Option (List ℕ)) → status ≤ 1 → IfSome known (λ text. IsEnded text status old new)
    → status ≢ 0 → (status ≡ 1) × IfSome known (λ text. IsScriptRefused text failed old new)
ended_refused None failed status old new few h other = (omega (arith, few, other), tt)
ended_refused (Some text) failed status old new few h other = elim h [
  | inl done ↦ absurd (other done.0)
  | inr cut ↦ (cut.0, inl cut.1)
]

pub fault_refused : (known : Option (List ℕ)) (failed : Bool) (e : WriterFault) (old new : Option (List ℕ)) → IfSome known (λ text. IsScriptFault text failed e)
    → (e ≢ Write → Keeps old new) → IfSome known (λ text. IsScriptRefused text failed old new)
fault_refused None failed e old new h kept = tt
fault_refused (Some text) failed e old new h kept = inr (e, h, kept)
