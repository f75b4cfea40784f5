-- The calls on a folder with their answers, and when the answers are true (this project's rule).
use Rattle.std.specs.Prelude.{◌≡◌, ℕ, Bool, List, [], ◌∷◌, take, drop, Result, Ok, Err}
use Rattle.std.specs.Coded.{Unit-prop}
use denote.Struct.Props as logic
use Rattle.lsm_folder.specs.declared.folder_fault.FolderFault.{FolderFault}
use Rattle.lsm_folder.specs.declared.lock_kind.LockKind.{LockKind}

-- what a call that only changes the folder answers: that it was Ok, or why it was refused
abbrev pub Answer : Type 0
Answer = Result (Unit {0}) FolderFault

-- whether a call was Ok, or why it was refused
abbrev pub answer_of : {T : Type 0} → Result T FolderFault → Answer
answer_of (Ok v) = Ok tt
answer_of (Err fault) = Err fault

-- A call with its answer. Files are named by their names in the folder. A call that only changes
-- the folder answers that it was Ok, and one that reads what it read; or they answer why they were
-- refused
pub data Call : Type 0 where
  -- opens the folder
  opened : Call
  -- makes a file of this name, which is not there, with these bytes
  made : (name bytes : List ℕ) → Answer → Call
  -- puts these bytes into the file of this name, made anew or emptied
  wrote : (name bytes : List ℕ) → Answer → Call
  -- puts these bytes behind those of the file
  appended : (name bytes : List ℕ) → Answer → Call
  -- makes the file's bytes durable
  synced : (name : List ℕ) → Answer → Call
  -- makes the folder's names durable
  folder_synced : Answer → Call
  -- gives the first name's file the second name
  renamed : (from to : List ℕ) → Answer → Call
  -- takes the name, and the file with it, out of the folder
  removed : (name : List ℕ) → Answer → Call
  -- how many bytes the file has
  measured : (name : List ℕ) → Result ℕ FolderFault → Call
  -- reads a part of the file of this name, which was made with `image`, or read whole and had it
  read : (name image : List ℕ) (offset len : ℕ) → Result (List ℕ) FolderFault → Call
  -- reads the file of this name whole
  loaded : (name : List ℕ) → Result (List ℕ) FolderFault → Call
  -- the names of the folder's files
  listed : Result (List (List ℕ)) FolderFault → Call
  -- locks the file, and tells whether the lock is held now, or another has one that forbids it
  locked : (name : List ℕ) (kind : LockKind) → Result Bool FolderFault → Call

-- an answer is a part of the image
abbrev pub IsPart : List ℕ → ℕ → ℕ → Result (List ℕ) FolderFault → Type 0
IsPart image offset len (Err fault) = Unit {0}
IsPart image offset len (Ok bytes) = bytes ≡ take len (drop offset image)

-- The answer of the call is true. Of a part that was read this says that it is the part of the
-- image: the caller knows the image, for which the mark stands, so it can be wrong. Of what was
-- loaded, listed or measured it says nothing: forks and other programs may change the folder
-- between two calls, so there is no text with which a caller could compare the answer; what was
-- loaded is the image of the new mark, and later reads are compared with that. A refusal is always
-- true: it promises nothing. Who else locked a file is known to the others
abbrev pub IsTrueCall : Call → Type 0
IsTrueCall opened = Unit {0}
IsTrueCall (made name bytes answer) = Unit {0}
IsTrueCall (wrote name bytes answer) = Unit {0}
IsTrueCall (appended name bytes answer) = Unit {0}
IsTrueCall (synced name answer) = Unit {0}
IsTrueCall (folder_synced answer) = Unit {0}
IsTrueCall (renamed from to answer) = Unit {0}
IsTrueCall (removed name answer) = Unit {0}
IsTrueCall (measured name answer) = Unit {0}
IsTrueCall (read name image offset len answer) = IsPart image offset len answer
IsTrueCall (loaded name answer) = Unit {0}
IsTrueCall (listed answer) = Unit {0}
IsTrueCall (locked name kind answer) = Unit {0}

-- the last call of the list, which stands first, was answered with the truth
abbrev pub LastIsTrue : List Call → Type 0
LastIsTrue [] = Unit {0}
LastIsTrue (c ∷ cs) = IsTrueCall c

-- Folders of a type are honest: whatever such a folder was asked, its last answer is true
pub record AreHonest {C : Type 0} (calls : C → List Call) : Type 0 where
  pub last : (c : C) → LastIsTrue (calls c)

-- an answer is true in one way
pub IsPart-prop : (image : List ℕ) (offset len : ℕ) (answer : Result (List ℕ) FolderFault)
    → IsProp (IsPart image offset len answer)
IsPart-prop image offset len (Err fault) = Unit-prop
IsPart-prop image offset len (Ok bytes) = Prim.hlevel logic.props

pub LastIsTrue-prop : (cs : List Call) → IsProp (LastIsTrue cs)
LastIsTrue-prop [] = Unit-prop
LastIsTrue-prop (opened ∷ cs) = Unit-prop
LastIsTrue-prop (made name bytes answer ∷ cs) = Unit-prop
LastIsTrue-prop (wrote name bytes answer ∷ cs) = Unit-prop
LastIsTrue-prop (appended name bytes answer ∷ cs) = Unit-prop
LastIsTrue-prop (synced name answer ∷ cs) = Unit-prop
LastIsTrue-prop (folder_synced answer ∷ cs) = Unit-prop
LastIsTrue-prop (renamed from to answer ∷ cs) = Unit-prop
LastIsTrue-prop (removed name answer ∷ cs) = Unit-prop
LastIsTrue-prop (measured name answer ∷ cs) = Unit-prop
LastIsTrue-prop (read name image offset len answer ∷ cs) = IsPart-prop image offset len answer
LastIsTrue-prop (loaded name answer ∷ cs) = Unit-prop
LastIsTrue-prop (listed answer ∷ cs) = Unit-prop
LastIsTrue-prop (locked name kind answer ∷ cs) = Unit-prop
