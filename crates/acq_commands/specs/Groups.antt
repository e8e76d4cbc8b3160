-- Groups of events, which are taken whole or not at all.
use Rattle.std.specs.Prelude.{◌≡◌, ◌⊎◌, ℕ, ◌*◌, Bool, ◌&&◌, nat_le, List, length}
use Rattle.acq_core.specs.declared.event.Event.{Event}

-- how many events a group has, 1 to 10,000 (own profile)
abbrev pub is_group_size : ℕ → Bool
is_group_size n = nat_le 1 n && nat_le n 10000

-- So many first events are whole groups of this size; where they are all, the last may be shorter.
abbrev pub AreWhole : (group taken : ℕ) → List Event → Type 0
AreWhole group taken events =
    ((groups : ℕ) × (taken ≡ groups * group)) ⊎ (taken ≡ length events)
