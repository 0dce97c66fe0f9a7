-- What the end of a job makes of the pages and of the state of each block.
use Rattle.device.proofs.Common.{Array, Bad, BlockState, Bool, Cell, Cells, Done, Ending, Erasing, Flight, ForNobody}
use Rattle.device.proofs.Common.{ForRest, ForStep, ForTask, GroupPage, MarkPage, None, NotRead, Nothing, OfDone, Option}
use Rattle.device.proofs.Common.{Place, Programming, ReadRight, ReadState, ReadWrong, Reader, Reading, Ready, Some}
use Rattle.device.proofs.Common.{Spot, State, Translation, Vacancy, WasRead, WentWell, WentWrong, ap, array_after}
use Rattle.device.proofs.Common.{at_die, at_spot, ended_well, ending_fits, eq_self, false≢true, if◌then◌else◌}
use Rattle.device.proofs.Common.{job_ended, job_of, observe, refl, spot_of, state_after, sym, true, ℕ, ◌==◌, ◌∙◌, ◌≡◌}
use Rattle.std.proofs.Common.{option_map}
use Rattle.ufs_spec.proofs.Facts.{if_both}
use Rattle.ufs_spec.specs.Disk.{program_failed, programmed}
use Rattle.ufs_spec.specs.Machine.{Allowed, ends_with, read_noted, read_noted_after}
use Rattle.ufs_spec.specs.Moves.{die_idle, end_flight, freed, read_right, read_wrong}
use Rattle.ufs_spec.specs.Translation.{has_mark_number}
use Rattle.ufs_laws.proofs.jobs.JobsInFlight.{ended_flight, ended_others}
use Rattle.device.proofs.open_tasks.ReadProgress.{by_tag}
use Rattle.ufs_laws.specs.Flights.{die_of_flight}
use Rattle.device.proofs.dies_of_world.QuietDies.{LayerSeen, layer_seen, seen, seen_over, told_same}

-- the state of each block behind the end of a job that went well: the end of a mark frees the block of its plan
abbrev pub blocks_behind : Translation → Flight → Spot → BlockState
blocks_behind t (Reading reader place) = t.disk.blocks
blocks_behind t (Programming p Nothing) = at_spot t.disk.blocks (spot_of p) (state_after t.numbers.pages p.page)
blocks_behind t (Programming p (GroupPage tag body)) =
    at_spot t.disk.blocks (spot_of p) (state_after t.numbers.pages p.page)
blocks_behind t (Programming p (MarkPage m)) =
    (freed (programmed t.numbers.pages t.disk p (MarkPage m)) t.work.plan).blocks
blocks_behind t (Erasing spot) = t.disk.blocks

-- what is in each free block then: nothing in one that was erased, and what may go in one that is freed
abbrev pub vacancies_behind : Translation → Flight → Spot → Vacancy
vacancies_behind t (Programming p (MarkPage m)) =
    (freed (programmed t.numbers.pages t.disk p (MarkPage m)) t.work.plan).vacancies
vacancies_behind t (Erasing spot) = at_spot t.disk.vacancies spot Ready
vacancies_behind t flight = t.disk.vacancies

abbrev pub layer_behind : Translation → Flight → LayerSeen
layer_behind t flight = record {
  numbers = t.numbers;
  blocks = blocks_behind t flight;
  vacancies = vacancies_behind t flight;
}

read_layer : (t : Translation) (reader : Reader) → layer_seen (read_right t reader) ≡ layer_seen t
read_layer t (ForTask tag index) = refl
read_layer t ForStep = refl
read_layer t (ForRest number index) = refl
read_layer t ForNobody = refl

ended_layer : (t : Translation) (die : ℕ) (flight : Flight) →
    layer_seen (job_ended t die flight (ended_well flight)) ≡ layer_behind t flight
ended_layer t die (Reading reader place) = read_layer (die_idle t die) reader
ended_layer t die (Programming p Nothing) = refl
ended_layer t die (Programming p (GroupPage tag body)) = refl
ended_layer t die (Programming p (MarkPage m)) = refl
ended_layer t die (Erasing spot) = refl

told_keeps : (s : State) (reader : Reader) (read : ReadState) → (read_noted s reader read).translation ≡ s.translation
told_keeps s (ForTask tag index) read = refl
told_keeps s reader read = refl

behind_keeps : (s : State) (flight : Flight) (ending : Ending) →
    (read_noted_after s flight ending).translation ≡ s.translation
behind_keeps s (Reading reader place) ReadRight = told_keeps s reader WasRead
behind_keeps s (Reading reader place) ReadWrong = told_keeps s reader NotRead
behind_keeps s (Reading reader place) WentWell = refl
behind_keeps s (Reading reader place) (WentWrong left) = refl
behind_keeps s (Programming p cell) ending = refl
behind_keeps s (Erasing spot) ending = refl

-- however the job of a die ends
seen_ended : (s : State) (die : ℕ) (flight : Flight) (ending : Ending) (left : Array) →
    s.translation.disk.flights die ≡ Some flight →
    seen (observe s (Done die ending left) (OfDone true))
    ≡ seen_over (array_after s flight ending left) (layer_seen (job_ended s.translation die flight ending))
seen_ended s die flight ending left flies =
    let array = array_after s flight ending left in
    told_same (ends_with s die (s.translation.disk.flights die) ending left)
    ∙ ap (λ (o : Option Flight). seen (ends_with s die o ending left)) flies
    ∙ ap (λ (t : Translation). seen_over array (layer_seen (end_flight t die (t.disk.flights die) ending)))
    (behind_keeps s flight ending)
    ∙ ap (λ (o : Option Flight). seen_over array (layer_seen (end_flight s.translation die o ending))) flies

pub seen_behind : (s : State) (die : ℕ) (flight : Flight) → s.translation.disk.flights die ≡ Some flight →
    seen (observe s (Done die (ended_well flight) s.array) (OfDone true))
    ≡ seen_over (array_after s flight (ended_well flight) s.array) (layer_behind s.translation flight)
seen_behind s die flight flies =
    seen_ended s die flight (ended_well flight) s.array flies
    ∙ ap (seen_over (array_after s flight (ended_well flight) s.array)) (ended_layer s.translation die flight)

-- A job that fails

-- a read changes nothing
unread_layer : (t : Translation) (reader : Reader) → layer_seen (read_wrong t reader) ≡ layer_seen t
unread_layer t (ForTask tag index) = refl
unread_layer t ForStep = refl
unread_layer t (ForRest number index) = refl
unread_layer t ForNobody = refl

pub seen_unread : (s : State) (die : ℕ) (reader : Reader) (place : Place) (left : Array) →
    s.translation.disk.flights die ≡ Some (Reading reader place) →
    seen (observe s (Done die ReadWrong left) (OfDone true)) ≡ seen s
seen_unread s die reader place left flies =
    seen_ended s die (Reading reader place) ReadWrong left flies
    ∙ ap (seen_over s.array) (unread_layer (die_idle s.translation die) reader)

-- the block of a program or of an erase is bad
abbrev pub blocks_failed : Translation → Spot → Spot → BlockState
blocks_failed t spot = at_spot t.disk.blocks spot Bad

abbrev pub layer_failed : Translation → Spot → LayerSeen
layer_failed t spot = record { numbers = t.numbers; blocks = blocks_failed t spot; vacancies = t.disk.vacancies }

program_layer : (t : Translation) (die : ℕ) (p : Place) (cell : Cell) (c : Cells) →
    layer_seen (job_ended t die (Programming p cell) (WentWrong c)) ≡ layer_failed t (spot_of p)
program_layer t die p Nothing c = refl
program_layer t die p (GroupPage tag body) c = refl
program_layer t die p (MarkPage m) c =
    if_both (λ (u : Translation). layer_seen u ≡ layer_failed t (spot_of p))
    (has_mark_number (record t { disk = program_failed t.disk p c })) refl refl

pub seen_program_failed : (s : State) (die : ℕ) (p : Place) (cell : Cell) (c : Cells) (left : Array) →
    s.translation.disk.flights die ≡ Some (Programming p cell) →
    seen (observe s (Done die (WentWrong c) left) (OfDone true))
    ≡ seen_over left (layer_failed s.translation (spot_of p))
seen_program_failed s die p cell c left flies =
    seen_ended s die (Programming p cell) (WentWrong c) left flies
    ∙ ap (seen_over left) (program_layer s.translation die p cell c)

pub seen_erase_failed : (s : State) (die : ℕ) (spot : Spot) (c : Cells) (left : Array) →
    s.translation.disk.flights die ≡ Some (Erasing spot) →
    seen (observe s (Done die (WentWrong c) left) (OfDone true)) ≡ seen_over left (layer_failed s.translation spot)
seen_erase_failed s die spot c left flies = seen_ended s die (Erasing spot) (WentWrong c) left flies

-- The jobs in flight

-- the die has none, and each other one does what it did: a request that fills its register lets a read for it go on for
-- nobody, which is the same job
pub doing_behind : (s : State) (die : ℕ) (flight : Flight) (ending : Ending) (left : Array) →
    s.translation.disk.flights die ≡ Some flight → die_of_flight flight ≡ die →
    ending_fits (Some flight) ending ≡ true → (other : ℕ) →
    option_map job_of ((observe s (Done die ending left) (OfDone true)).translation.disk.flights other)
    ≡ option_map job_of (at_die s.translation.disk.flights die None other)
doing_behind s die flight ending left flies home fit other =
    by_tag
    (λ (n : ℕ). option_map job_of ((observe s (Done die ending left) (OfDone true)).translation.disk.flights n)
    ≡ option_map job_of (at_die s.translation.disk.flights die None n)) die
    (ap (option_map job_of) (ended_flight s die flight ending left flies home right)
    ∙ sym (ap (λ (b : Bool). option_map job_of (if b then None else s.translation.disk.flights die)) (eq_self die)))
    (λ n apart. ended_others s die flight ending left flies home right n
    (λ same. false≢true (sym apart ∙ (ap (λ (m : ℕ). m == die) same ∙ eq_self die)))
    ∙ sym (ap (λ (b : Bool). option_map job_of (if b then None else s.translation.disk.flights n)) apart)) other
  where
    right : Allowed s (Done die ending left) (OfDone true)
    right = sym fit ∙ ap (λ (o : Option Flight). ending_fits o ending) (sym flies)
