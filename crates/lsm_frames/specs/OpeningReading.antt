-- Reading an opening.
use Rattle.std.specs.Prelude.{ℕ, zero, suc, Bool, true, false, List, [], ◌∷◌, length, Option, Some}
use Rattle.std.specs.Prelude.{None, ◌+◌, ◌^◌, ◌&&◌, nat_le, ◌==◌, if◌then◌else◌}
use Rattle.std.specs.Int.{w32}
use Rattle.std.specs.Str.{is_utf8}
use Rattle.lsm_frames.specs.Openings.{Opened}
use Rattle.lsm_frames.specs.Reading.{◌>>=◌, Read, number_at, text_at}

-- the two flags of a byte
unfoldable pub flags_at : Read (Bool × Bool)
flags_at [] = None
flags_at (zero ∷ bytes) = Some ((false, false), bytes)
flags_at (suc zero ∷ bytes) = Some ((true, false), bytes)
flags_at (suc (suc zero) ∷ bytes) = Some ((false, true), bytes)
flags_at (suc (suc (suc zero)) ∷ bytes) = Some ((true, true), bytes)
flags_at (suc (suc (suc (suc b))) ∷ bytes) = None

unfoldable pub fields_at : Read Opened
fields_at bytes = number_at w32 bytes >>= λ f. number_at w32 f.1 >>= λ c. number_at w32 c.1 >>= λ w.
    flags_at w.1 >>= λ g. text_at g.1 >>= λ p.
    Some (
      record {
        first = f.0;
        channels = c.0;
        workers = w.0;
        make = g.0.0;
        refuse = g.0.1;
        path = p.0;
      },
      p.1,
    )

-- the limits of an opening
abbrev pub is_within : Opened → Bool
is_within o = nat_le (o.first + o.channels) (2 ^ 31) && nat_le 1 o.channels && nat_le o.channels 62
    && nat_le o.workers 16

unfoldable pub judged : Opened → Option Opened
judged o = if is_within o then (if is_utf8 o.path then Some o else None) else None

unfoldable pub opened_at : List ℕ → Option Opened
opened_at bytes = fields_at bytes >>= λ o. if length o.1 == 0 then judged o.0 else None
