-- What the state of a MAC says.
use Rattle.std.specs.Prelude.{ℕ, List, ◌++◌}
use Rattle.sha2.specs.Hashers.{Holds256}
use Rattle.ufs_spec.specs.Rpmb.{keyed}
use Rattle.hmac_sha256.specs.declared.macs.Hmac.{Hmac}

-- under this key this message came so far: the inner hasher has the inner key and the message, the outer one the
-- outer key
abbrev pub Holds : Hmac → List ℕ → List ℕ → Type 0
Holds h key message = Holds256 h.inner (keyed 0x36 key ++ message) × Holds256 h.outer (keyed 0x5C key)
