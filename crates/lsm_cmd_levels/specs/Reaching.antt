-- Which files a range of user keys reaches in a level, where each meets the range or one that it
-- reached (LevelDB's `Version::GetOverlappingInputs`; that it is so in every level is this
-- project's rule).
use Rattle.std.specs.Prelude.{◌≡◌, Bool, true, ◌&&◌, List}
use Rattle.lsm_codec.specs.Keys.{UserKey, UserLe, user_le, user_part}
use Rattle.lsm_codec.specs.Lists.{Has}
use Rattle.lsm_manifest.specs.declared.file_meta.FileMeta.{FileMeta}
use Rattle.lsm_cmd_levels.specs.declared.span.KeySpan.{KeySpan}

-- a range of user keys: the least and the greatest
abbrev pub Span : Type 0
Span = UserKey × UserKey

-- that of the code
abbrev pub span_in : KeySpan → Span
span_in k = (k.low.now, k.high.now)

-- the range of a file
abbrev pub span_of : FileMeta → Span
span_of f = (user_part f.smallest, user_part f.largest)

-- two ranges have a user key in common
abbrev pub meets : Span → Span → Bool
meets r q = user_le r.0 q.1 && user_le q.0 r.1

-- the first range is a part of the second
abbrev pub IsWithin : Span → Span → Type 0
IsWithin r q = UserLe q.0 r.0 × UserLe r.1 q.1

-- each file that meets the range is within it
abbrev pub IsClosedIn : List FileMeta → Span → Type 0
IsClosedIn fs r = (f : FileMeta) → Has fs f → meets r (span_of f) ≡ true → IsWithin (span_of f) r

-- The least range that has the first one in it, and each of these files that meets it.
pub record IsReach (fs : List FileMeta) (from r : Span) : Type 0 where
  pub holds : IsWithin from r
  pub closed : IsClosedIn fs r
  pub least : (q : Span) → IsWithin from q → IsClosedIn fs q → IsWithin r q

-- ---- how the code grows a range

-- the lesser of two keys, and the greater
pub record IsLesser (k a b : UserKey) : Type 0 where
  pub first : UserLe k a
  pub second : UserLe k b
  pub greatest : (q : UserKey) → UserLe q a → UserLe q b → UserLe q k

pub record IsGreater (k a b : UserKey) : Type 0 where
  pub first : UserLe a k
  pub second : UserLe b k
  pub least : (q : UserKey) → UserLe a q → UserLe b q → UserLe k q

-- the least range that has both in it
pub record IsHull (a b r : Span) : Type 0 where
  pub first : IsWithin a r
  pub second : IsWithin b r
  pub least : (q : Span) → IsWithin a q → IsWithin b q → IsWithin r q

-- The range has the first one in it, and each of these files that meets that. It lies within each
-- range that is closed in all files.
pub record IsGrown (all fs : List FileMeta) (from r : Span) : Type 0 where
  pub holds : IsWithin from r
  pub met : (f : FileMeta) → Has fs f → meets from (span_of f) ≡ true → IsWithin (span_of f) r
  pub least : (q : Span) → IsWithin from q → IsClosedIn all q → IsWithin r q
