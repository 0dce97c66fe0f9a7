-- The states of a worked life in which jobs fail while the block's page waits: what is answered there until four blocks
-- are bad, and to which states that leads.
use Rattle.power_loss.proofs.Common.{◌≡◌, ℕ, true, List, Some, refl, Array, Cells, Disk, Spot, WentWrong}
use Rattle.power_loss.proofs.Common.{erase_failed, job_begun, program_failed}
use Rattle.power_loss.proofs.MachineWords.{Done, Gets, OfDone, OfTake, State, Take, observe, place_of}
use Rattle.ufs_laws.proofs.answers.OnlyAnswers.{flight_gets}
use Rattle.ufs_laws.proofs.new_dies.NewDeviceState.{Open}
use Rattle.ufs_laws.proofs.worked_run.RunStates.{writing, writing_disk}
use Rattle.power_loss.specs.FailedWrites.{erase_of}

-- the block's page waits or is in flight, over this array and these dies
unfoldable pub waiting : Open → List ℕ → Array → Disk → State
waiting o body array d =
    let s = writing o body in record s { array = array; translation = record s.translation { disk = d } }

pub begins_so : (o : Open) (body : List ℕ) → writing o body ≡ waiting o body o.array (writing_disk body)
unfolding writing waiting
begins_so o body = refl

-- the program of the page failed
abbrev pub page_failed : List ℕ → Cells → Disk
page_failed body c = program_failed (writing_disk body) (place_of 1) c

-- a die erases its first block, and that failed
abbrev pub first_block : ℕ → Spot
first_block die = record { die = die; block = 0 }

abbrev pub erasing_on : ℕ → Disk → Disk
erasing_on die d = job_begun d die (erase_of die 0)

abbrev pub failed_on : ℕ → Disk → Cells → Disk
failed_on die d c = erase_failed (erasing_on die d) (first_block die) c

-- over these dies a die is given the erase of its first block, which may fail
pub record EraseFails (o : Open) (body : List ℕ) (die : ℕ) (d : Disk) : Type 0 where
  pub gets : (array : Array) → Gets (waiting o body array d) (Take die) (OfTake (Some (erase_of die 0)))
  pub goes : (array : Array) → observe (waiting o body array d) (Take die) (OfTake (Some (erase_of die 0)))
      ≡ waiting o body array (erasing_on die d)
  pub flies : (array : Array) → (waiting o body array (erasing_on die d)).translation.disk.flights die
      ≡ Some (erase_of die 0)
  pub fails : (array left : Array) (c : Cells) →
      observe (waiting o body array (erasing_on die d)) (Done die (WentWrong c) left) (OfDone true)
      ≡ waiting o body left (failed_on die d c)

module _ (o : Open) (body : List ℕ) where
  pub page_fails : (array left : Array) (c : Cells) →
      observe (waiting o body array (writing_disk body)) (Done 0 (WentWrong c) left) (OfDone true)
      ≡ waiting o body left (page_failed body c)
  unfolding waiting writing
  page_fails array left c = refl

  module _ (c : Cells) where
    pub erase_1 : EraseFails o body 1 (page_failed body c)
    unfolding waiting writing
    erase_1 = record {
      gets = λ array.
          flight_gets (waiting o body array (page_failed body c)) 1 (erase_of 1 0) (refl, (refl, refl)) refl refl;
      goes = λ array. refl;
      flies = λ array. refl;
      fails = λ array left c1. refl;
    }

    module _ (c1 : Cells) where
      abbrev failed_1 : Disk
      failed_1 = failed_on 1 (page_failed body c) c1

      pub erase_2 : EraseFails o body 2 failed_1
      unfolding waiting writing
      erase_2 = record {
        gets = λ array. flight_gets (waiting o body array failed_1) 2 (erase_of 2 0) (refl, (refl, refl)) refl refl;
        goes = λ array. refl;
        flies = λ array. refl;
        fails = λ array left c2. refl;
      }

      module _ (c2 : Cells) where
        abbrev failed_2 : Disk
        failed_2 = failed_on 2 failed_1 c2

        pub erase_3 : EraseFails o body 3 failed_2
        unfolding waiting writing
        erase_3 = record {
          gets = λ array. flight_gets (waiting o body array failed_2) 3 (erase_of 3 0) (refl, (refl, refl)) refl refl;
          goes = λ array. refl;
          flies = λ array. refl;
          fails = λ array left c3. refl;
        }
