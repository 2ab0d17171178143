-- Names are hashed by SipHash-1-3.
use Rattle.std.specs.Hash.DefaultHasher as sip
use Rattle.std.specs.{RandomState.initial_hasher, declared.hash.DefaultHasher.DefaultHasher}
use Rattle.smi_names.specs.declared.hash.NameHash.{NameHash}
use Rattle.smi_names.specs.declared.hash.NameHash.TheVariants as by

-- a new hasher, with the key from the system or with the key 0
abbrev pub hasher_by : NameHash → DefaultHasher
hasher_by (by.Keyed key) = initial_hasher key
hasher_by by.Fixed = sip.initial
