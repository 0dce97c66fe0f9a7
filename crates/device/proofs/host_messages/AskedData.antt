-- Which data the device asked for, to gather them or to compare them with its block, and that the specification asks
-- for the same.
use Rattle.ufs_spec.specs.Exchanges.{Comparing, to_gather}
use Rattle.device.proofs.Common.{Answering, AskedFor, Awaiting, Bool, Deed, DeviceCore, Gathering, IsDoing, IsGathered}
use Rattle.device.proofs.Common.{List, None, OpenTask, Option, Phase, Purpose, ReadingArea, Sending, SendingBytes, Some}
use Rattle.device.proofs.Common.{TasksKept, Wanted, and_parts, ap, arith, cond, count_for, eqb-true, false, inl, inr}
use Rattle.device.proofs.Common.{length, nat_tests, refl, sym, task_of, true, ℕ, ◌&&◌, ◌*◌, ◌==◌, ◌∙◌, ◌≡◌, ◌⊎◌}
use Rattle.ufs_spec.specs.Exchanges as exchange
use Rattle.ufs_spec.specs.Exchanges.{count_at, is_asked_in, is_asked_of}
use Rattle.task_set.specs.declared.tasks.Phase.TheVariants as phase
use Rattle.task_set.specs.declared.tasks.ComparedWith.{ComparedWith}
use Rattle.task_set.specs.declared.tasks.Comparing.{Comparing as Compares}
use Rattle.task_set.specs.Lists.{asked_at, asked_by, asked_what, compared_at, compared_by, compared_in, compared_what}
use Rattle.task_set.specs.Lists.{wanted_in}
use Rattle.task_set.specs.Tasks.{is_compared, is_wanted, wanted_count}
use Rattle.device.specs.Describes.{IsComparing}
use Rattle.device.specs.Hears.{asked_for, compared_with}
use Rattle.device.proofs.open_tasks.WantedData.{count_so}
use Rattle.device.proofs.open_tasks.OpenTasks.{Stands, StandsOrNot, tag_stands}

-- the task of the tag asked for these data, which it gathers
pub record HasAsked (before tag count : ℕ) (ours : List OpenTask) (theirs : List exchange.Task)
    (asked : Option AskedFor) : Type 0 where
  pub stands : Stands before tag ours theirs
  pub wanted : Wanted
  pub awaits : stands.a.phase ≡ phase.Await wanted
  pub count_is : count ≡ wanted_count wanted
  pub asked_is : asked ≡ Some (record { index = stands.k; wanted = wanted })

-- it asked for them and compares them with its block
pub record HasAskedToCompare (before tag : ℕ) (ours : List OpenTask) (theirs : List exchange.Task)
    (compared : Option ComparedWith) : Type 0 where
  pub stands : Stands before tag ours theirs
  pub comparing : Compares
  pub awaits : stands.a.phase ≡ phase.AwaitBlock comparing
  pub compared_is : compared ≡ Some (record { index = stands.k; comparing = comparing })

-- both sides asked for the data, or neither
abbrev pub AreAsked : ℕ → ℕ → ℕ → List OpenTask → List exchange.Task → Option AskedFor → Option ComparedWith → Bool →
    Type 0
AreAsked before tag count ours theirs asked compared is =
    ((asked ≡ None) × (compared ≡ None) × (is ≡ false))
    ⊎ ((HasAsked before tag count ours theirs asked × (is ≡ true))
    ⊎ ((asked ≡ None) × HasAskedToCompare before tag ours theirs compared × (is ≡ true)))

abbrev none_asked : Option AskedFor
none_asked = None

abbrev none_compared : Option ComparedWith
none_compared = None

-- what the task at this position asked for
abbrev asks : ℕ → Wanted → Option AskedFor
asks k w = Some (record { index = k; wanted = w })

abbrev asks_to_compare : ℕ → Compares → Option ComparedWith
asks_to_compare k x = Some (record { index = k; comparing = x })

-- What is asked for

-- two numbers are compared the other way round
pub other_side : (m n : ℕ) → (m == n) ≡ (n == m)
other_side m n = grind (arith, nat_tests)

-- it begins behind what came
next_offset : (w : Wanted) (total offset : ℕ) (purpose : Purpose) (gathered : List ℕ) →
    IsGathered w total purpose gathered → (offset == length gathered) ≡ (w.came == offset)
next_offset w total offset purpose gathered h =
    other_side offset (length gathered) ∙ ap (λ (n : ℕ). n == offset) h.came

-- and has as many bytes
next_count : (w : Wanted) (total : ℕ) (purpose : Purpose) (gathered : List ℕ) →
    IsGathered w total purpose gathered → count_at (to_gather purpose total) (length gathered) ≡ wanted_count w
next_count w total purpose gathered h =
    (λ i. count_at (to_gather purpose (h.total_is i)) (h.came i))
    ∙ (count_so purpose w.came w.length h.so ∙ ap (λ (p : Purpose). count_for p w.length) (sym h.same))

-- the block that is compared next begins behind those that were
next_block : (x : Compares) (total offset : ℕ) (blocks : List exchange.ReadBlock) (compared : ℕ) →
    IsComparing x total blocks compared → (offset == 4096 * compared) ≡ (4096 * x.compared == offset)
next_block x total offset blocks compared h =
    other_side offset (4096 * compared) ∙ ap (λ (n : ℕ). 4096 * n == offset) h.compared_is

three : (a b c : Bool) → ((a && b) && c) ≡ (a && (b && c))
three true b c = refl
three false b c = refl

-- what the two sides say of data: neither asked for them, or both tests are those of what is wanted, or of the block
-- that is compared next
abbrev SaySame : ℕ → ℕ → ℕ → exchange.Task → Phase → Deed → Type 0
SaySame lun offset count b p deed =
    ((wanted_in p ≡ None) × (compared_in p ≡ None) × (is_asked_in b lun offset count deed ≡ false))
    ⊎ (((w : Wanted) × (p ≡ phase.Await w)
    × (is_asked_in b lun offset count deed ≡ ((b.lun == lun) && is_wanted w offset count)))
    ⊎ ((x : Compares) × (p ≡ phase.AwaitBlock x)
    × (is_asked_in b lun offset count deed ≡ ((b.lun == lun) && is_compared x offset count))))

-- the tests of the two sides agree
asked_same : (lun offset count : ℕ) (b : exchange.Task) (before expected : ℕ) (p : Phase) (deed : Deed) →
    IsDoing before expected b.length p deed → SaySame lun offset count b p deed
asked_same lun offset count b before expected (phase.Await w) (Gathering purpose gathered asked) h =
    inr (inl (
      w,
      refl,
      (λ i. ((h.1 i && (b.lun == lun)) && next_offset w b.length offset purpose gathered h.0 i) &&
          (count == next_count w b.length purpose gathered h.0 i))
          ∙ three (b.lun == lun) (w.came == offset) (count == wanted_count w),
    ))
asked_same lun offset count b before expected (phase.Ask w) (Gathering purpose gathered asked) h =
    inl (
      refl,
      refl,
      ap (λ x. ((x && (b.lun == lun)) && (offset == length gathered)) &&
          (count == count_at (to_gather purpose b.length) (length gathered))) h.1,
    )
asked_same lun offset count b before expected (phase.AwaitBlock x) (Comparing blocks compared asked) h =
    inr (inr (
      x,
      refl,
      (λ i. ((h.1 i && (b.lun == lun)) && next_block x b.length offset blocks compared h.0 i) && (count == 4096))
          ∙ three (b.lun == lun) (4096 * x.compared == offset) (count == 4096),
    ))
asked_same lun offset count b before expected (phase.AskBlock x) (Comparing blocks compared asked) h =
    inl (
      refl,
      refl,
      ap (λ z. ((z && (b.lun == lun)) && (offset == 4096 * compared)) && (count == 4096)) h.1,
    )
asked_same lun offset count b before expected (phase.AwaitFrontier n size) (Awaiting commands) h =
    inl (refl, refl, refl)
asked_same lun offset count b before expected (phase.SendHeld x) (SendingBytes bytes) h = inl (refl, refl, refl)
asked_same lun offset count b before expected (phase.SendBlocks x) (Sending blocks sent) h = inl (refl, refl, refl)
asked_same lun offset count b before expected (phase.ReadArea r) (ReadingArea pages) h = inl (refl, refl, refl)
asked_same lun offset count b before expected (phase.Verify x) (ReadingArea pages) h = inl (refl, refl, refl)
asked_same lun offset count b before expected (phase.Answer s n) (Answering status carried) h = inl (refl, refl, refl)
asked_same lun offset count b before expected (phase.Answer s n) (Sending blocks sent) h = inl (refl, refl, refl)
asked_same lun offset count b before expected (phase.Answer s n) (Comparing blocks compared asked) h =
    inl (
      refl,
      refl,
      ap (λ z. ((z && (b.lun == lun)) && (offset == 4096 * compared)) && (count == 4096)) h.1,
    )
asked_same lun offset count b before expected p deed h = absurd h

-- what is wanted tells how many bytes come
long_enough : (w : Wanted) (offset count : ℕ) → is_wanted w offset count ≡ true → count ≡ wanted_count w
long_enough w offset count e =
    eqb-true count (wanted_count w) (and_parts (w.came == offset) (count == wanted_count w) e).1

-- the data are asked for by the task of the tag on both sides, or on neither
pub data_asked : (d : DeviceCore) (before lun tag offset count : ℕ) (theirs : List exchange.Task) →
    TasksKept before d.tasks theirs →
    AreAsked before tag count d.tasks theirs (asked_for d lun tag offset count)
    (compared_with d lun tag offset count) (is_asked_of (task_of tag theirs) lun offset count)
data_asked d before lun tag offset count theirs h = by (tag_stands before tag d.tasks theirs h)
  where
    Told : Type 0
    Told =
        AreAsked before tag count d.tasks theirs (asked_for d lun tag offset count)
        (compared_with d lun tag offset count) (is_asked_of (task_of tag theirs) lun offset count)

    by : StandsOrNot before tag d.tasks theirs → Told
    by (inl none) = inl (
      ap (asked_at d.tasks lun offset count) none.0,
      ap (compared_at d.tasks lun offset count) none.0,
      ap (λ x. is_asked_of x lun offset count) none.1,
    )
    by (inr r) =
        found (asked_same lun offset count r.b before r.a.expected r.a.phase r.b.deed r.opened.kept.doing)
      where
        asked : (p : Phase) → r.a.phase ≡ p →
            asked_for d lun tag offset count ≡ asked_what lun offset count r.k r.a (wanted_in p)
        asked p is =
            ap (asked_at d.tasks lun offset count) r.at
            ∙ (ap (asked_by lun offset count r.k) r.opened.ours
            ∙ ap (λ (q : Phase). asked_what lun offset count r.k r.a (wanted_in q)) is)

        compared : (p : Phase) → r.a.phase ≡ p →
            compared_with d lun tag offset count ≡ compared_what lun offset count r.k r.a (compared_in p)
        compared p is =
            ap (compared_at d.tasks lun offset count) r.at
            ∙ (ap (compared_by lun offset count r.k) r.opened.ours
            ∙ ap (λ (q : Phase). compared_what lun offset count r.k r.a (compared_in q)) is)

        its : is_asked_of (task_of tag theirs) lun offset count ≡ is_asked_in r.b lun offset count r.b.deed
        its = ap (λ x. is_asked_of x lun offset count) r.found

        same_lun : (b : Bool) → ((r.b.lun == lun) && b) ≡ ((r.a.lun == lun) && b)
        same_lun b = ap (λ (n : ℕ). (n == lun) && b) r.opened.kept.lun

        gathers : (w : Wanted) (c : Bool) → r.a.phase ≡ phase.Await w →
            ((r.a.lun == lun) && is_wanted w offset count) ≡ c →
            asked_for d lun tag offset count ≡ cond c (asks r.k w) none_asked →
            is_asked_of (task_of tag theirs) lun offset count ≡ c → Told
        gathers w true p c mine is =
            inr (inl (
              record {
                stands = r;
                wanted = w;
                awaits = p;
                count_is = long_enough w offset count
                    (and_parts (r.a.lun == lun) (is_wanted w offset count) c).1;
                asked_is = mine;
              },
              is,
            ))
        gathers w false p c mine is = inl (mine, compared (phase.Await w) p, is)

        compares : (x : Compares) (c : Bool) → r.a.phase ≡ phase.AwaitBlock x →
            compared_with d lun tag offset count ≡ cond c (asks_to_compare r.k x) none_compared →
            is_asked_of (task_of tag theirs) lun offset count ≡ c → Told
        compares x true p mine is =
            inr (inr (
              asked (phase.AwaitBlock x) p,
              record { stands = r; comparing = x; awaits = p; compared_is = mine },
              is,
            ))
        compares x false p mine is = inl (asked (phase.AwaitBlock x) p, mine, is)

        found : SaySame lun offset count r.b r.a.phase r.b.deed → Told
        found (inl none) =
            inl (
              asked r.a.phase refl ∙ ap (asked_what lun offset count r.k r.a) none.0,
              compared r.a.phase refl ∙ ap (compared_what lun offset count r.k r.a) none.1,
              its ∙ none.2,
            )
        found (inr (inl is)) =
            gathers is.0 ((r.a.lun == lun) && is_wanted is.0 offset count) is.1 refl (asked (phase.Await is.0) is.1)
            (its ∙ (is.2 ∙ same_lun (is_wanted is.0 offset count)))
        found (inr (inr is)) =
            compares is.0 ((r.a.lun == lun) && is_compared is.0 offset count) is.1
            (compared (phase.AwaitBlock is.0) is.1)
            (its ∙ (is.2 ∙ same_lun (is_compared is.0 offset count)))
