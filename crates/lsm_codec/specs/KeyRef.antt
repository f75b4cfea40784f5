-- A key that lies in other bytes, as a key.
use Rattle.lsm_codec.specs.declared.internal_key.KeyRef.{KeyRef}
use Rattle.lsm_codec.specs.Keys.{InternalKey}

abbrev pub key_of : KeyRef → InternalKey
key_of k = record { user = k.user.now; seq = k.seq; kind = k.kind }
