-- The stops that were tried, which of them are good, and how many are bad.
use Rattle.std.specs.Prelude.{◌≡◌, ◌≤◌, ◌↔◌, ◌+◌, ◌-◌, ◌^◌, ◌++◌, ◌∷◌, [], ℕ, Bool, true, false, List}
use Rattle.std.specs.Prelude.{Option, None, Some, codes, if◌then◌else◌, length, min, take}
use Rattle.std.specs.Fmt.{decimal}
use Rattle.std.specs.Io.KnownBytes.{Appends}
use Rattle.ufs_spec.specs.Plain.{Plain}
use Rattle.ufs_spec.specs.Plain.{zero as new_plain}
use Rattle.ufs_spec.specs.declared.configs.Numbers.{Numbers}
use Rattle.journal.specs.Entries.{CanFollow, IsAfter}
use Rattle.journal.specs.Heard.{Heard}
use Rattle.journal.specs.Shown.{AreAreas, AreUnits, ShowsAll, holding}
use Rattle.journal.specs.declared.found.FoundRest.{FoundRest}

-- what was read of a device by messages: the blocks of each unit, and the settings and the RPMB regions
pub record Found : Type 0 where
  pub units : List (List (List ℕ))
  pub rest : FoundRest

-- a stop that was tried: what was read when its life began, if that was not over new dies; what the journal had noted by
-- then; what was read after the stop, if all of it was told rightly; and whether the stop was counted as good
pub record Trial : Type 0 where
  pub numbers : Numbers
  pub began : Option Found
  pub heard : Heard
  pub found : Option Found
  pub good : Bool

-- the plain device that a life began with: a new one, or one that holds what was read
abbrev pub plain_of : Numbers → Option Found → Plain
plain_of n None = new_plain n
plain_of n (Some f) = holding n f.units f.rest

-- what was read when the life began is as large as the units and the areas, and has a boot setting
abbrev pub IsWhole : Numbers → Option Found → Type 0
IsWhole n None = Unit {0}
IsWhole n (Some f) = AreUnits n f.units × AreAreas n f.rest.regions × (f.rest.boot ≤ 2)

-- the journal allows what was read: some first entries, with all that have to be kept, may make of this plain device
-- one that shows it
abbrev pub IsAllowed : Plain → Heard → Found → Type 0
IsAllowed base j f =
    (k : ℕ) × (j.held ≤ k) × (k ≤ length j.entries) × (p : Plain) × IsAfter base (take k j.entries) p
    × ShowsAll f.units f.rest p

-- a stop that is counted as good was told rightly, and the journal allows what was read
abbrev pub IsGood : Trial → Type 0
IsGood t = (f : Found) × (t.found ≡ Some f) × IsAllowed (plain_of t.numbers t.began) t.heard f

-- of what was read after one that is counted as bad the journal allows nothing, if each accepted command may come when
-- it does
abbrev pub IsBad : Trial → Type 0
IsBad t =
    (f : Found) → t.found ≡ Some f → IsWhole t.numbers t.began →
    CanFollow (plain_of t.numbers t.began) t.heard.entries → IsAllowed (plain_of t.numbers t.began) t.heard f → ⊥

-- a stop is counted as what it is; so is each of these
abbrev pub IsRight : Trial → Type 0
IsRight t = (t.good ≡ true → IsGood t) × (t.good ≡ false → IsBad t)

abbrev pub AreRight : List Trial → Type 0
AreRight [] = Unit {0}
AreRight (t ∷ ts) = IsRight t × AreRight ts

-- how many of them are counted as bad
abbrev pub bad_among : List Trial → ℕ
bad_among [] = 0
bad_among (t ∷ ts) = if t.good then bad_among ts else bad_among ts + 1

-- ## The counts

-- a count in 64 bits stays at the greatest number
abbrev pub capped : ℕ → ℕ
capped n = min n (2 ^ 64 - 1)

-- how many programs and erases were given to dies, how many stops were tried, and how many of them were bad
pub record Counts : Type 0 where
  pub moments : ℕ
  pub stops : ℕ
  pub bad : ℕ

-- one stop more
abbrev pub counted : Counts → Bool → Counts
counted c good =
    record c { stops = capped (c.stops + 1); bad = (if good then c.bad else capped (c.bad + 1)) }

-- so many stops were counted more
abbrev pub IsMore : ℕ → Counts → Counts → Type 0
IsMore more old new =
    (new.moments ≡ old.moments) × ((s : ℕ) → old.stops ≡ capped s → new.stops ≡ capped (s + more))

-- so many stops were tried, each was counted as what it is, and so many of them were bad. Dies that were not told rightly
-- when a life began count as one bad stop more each
abbrev pub AreCounted : ℕ → ℕ → Type 0
AreCounted stops bad =
    (ts : List Trial) × (unread : ℕ) × AreRight ts × (stops ≡ capped (length ts))
    × (bad ≡ capped (bad_among ts + unread))

-- the line `check stops S bad B`, with its end
abbrev pub check_line : (stops bad : ℕ) → List ℕ
check_line stops bad = codes "check stops " ++ (decimal stops ++ (codes " bad " ++ (decimal bad ++ 10 ∷ [])))

-- the line of so many stops and so many bad ones was added, and these are the counts of what was tried. It went well
-- exactly if none was bad
abbrev pub Tells : Option (List ℕ) → Option (List ℕ) → Bool → Type 0
Tells before after well =
    (stops bad : ℕ) × Appends before after (check_line stops bad) × AreCounted stops bad × (well ≡ true ↔ bad ≡ 0)

-- the line says that no stop was bad, and none was
abbrev pub TellsGood : Option (List ℕ) → Option (List ℕ) → Type 0
TellsGood before after = (stops : ℕ) × Appends before after (check_line stops 0) × AreCounted stops 0
