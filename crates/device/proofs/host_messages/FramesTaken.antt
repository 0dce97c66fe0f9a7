-- A SECURITY PROTOCOL IN takes the frames that wait: the task keeps them, and the response register is empty.
use Rattle.device.proofs.Common.{All, All-head, All-tail, Bool, Core, Describes, DeviceCore, IsKept, IsLayerWith, List}
use Rattle.device.proofs.Common.{Machine, None, Phase, RegionState, Registers, Request, State, [], ap, arith, at_region}
use Rattle.device.proofs.Common.{claims_of, data_begun, drop, eqb-true, false, false≢true, flat_map, has_other_response}
use Rattle.device.proofs.Common.{length, length-append, machine_at, min, most_tasks, not, numbers_of, plain_now, refl}
use Rattle.device.proofs.Common.{region_of, regions, subst, sym, take, take_all, task_of, true, with_machine}
use Rattle.device.proofs.Common.{with_zeros, ℕ, ◌++◌, ◌<◌, ◌∙◌, ◌∷◌, ◌≡◌, ◌≤◌}
use Rattle.std.specs.Prelude.{◌*◌, ◌-◌, ◌==◌}
use Rattle.ufs_spec.specs.Begins.{frames_begun}
use Rattle.ufs_spec.specs.Plain.{zero_block}
use Rattle.ufs_spec.specs.declared.scsi.Cdb.TheVariants as cdb
use Rattle.power_loss.specs.WaitingFrames.{IsFrameSaid}
use Rattle.rpmb.specs.Answers.{waiting_in}
use Rattle.device.specs.Calls.{held_phase}
use Rattle.device.specs.Frames.{handed_over, waiting_held, with_none_waiting}
use Rattle.device.proofs.described.Answered.{IsBehind}
use Rattle.device.proofs.described.Machines.{as_many, regions_same, registers_put}
use Rattle.device.proofs.described.Settled.{kept_stays, still_answered}
use Rattle.device.proofs.host_messages.HeldBegins.{core_keeping, held_begins, last_held}
use Rattle.device.proofs.host_messages.ReadOpened.{core_opened}

-- as many bytes as frames of 512
joined_length : (xs : List (List ℕ)) → All IsFrameSaid xs →
    length (flat_map (λ (frame : List ℕ). frame) xs) ≡ 512 * length xs
joined_length [] h = refl
joined_length (x ∷ xs) h =
    let first = (All-head IsFrameSaid x xs h).0 in
    let rest = joined_length xs (All-tail IsFrameSaid x xs h) in
    let joined = length-append x (flat_map (λ (frame : List ℕ). frame) xs) in
    omega arith

-- of frames that fit into a block all are taken
all_wait : (w : List ℕ) → length w ≤ 4096 →
    take (min (length w) 4096) w ++ drop (min (length w) 4096) zero_block ≡ with_zeros w
all_wait w few =
    ap (λ (n : ℕ). take n w ++ drop n zero_block) (least (length w) few)
    ∙ ap (λ (xs : List ℕ). xs ++ drop (length w) zero_block) (take_all (length w) w (omega arith))
  where
    least : (n : ℕ) → n ≤ 4096 → min n 4096 ≡ n
    least n h = omega arith

-- no frames of the region wait any more
abbrev none_wait : State → ℕ → State
none_wait v region =
    record v { registers = at_region v.registers region (record (v.registers region) { response = [] }) }

-- the machine of the region then
abbrev none_waits : DeviceCore → ℕ → List Machine
none_waits e region = with_machine e.rpmb region (with_none_waiting (machine_at e.rpmb region))

emptied : (e : DeviceCore) (v : State) (region : ℕ) → region < regions → IsBehind e v →
    IsBehind (record e { rpmb = none_waits e region }) (none_wait v region)
emptied e v region there b = record {
  keeps = record {
    boot = b.keeps.boot;
    permanent = b.keeps.permanent;
    each = as_many e.rpmb region its ∙ b.keeps.each;
    region =
        λ number. subst (λ (r : RegionState). IsKept r (region_of (plain_now v) number))
        (sym (regions_same e.rpmb region number its refl)) (b.keeps.region number);
    registers =
        registers_put v.registers e.rpmb region (record (v.registers region) { response = [] }) its
        (subst (λ (n : ℕ). region < n) (sym b.keeps.each) there) b.keeps.registers
        (ap (λ (x : Registers). record x { response = [] }) (b.keeps.registers region));
    layer_kept = b.keeps.layer_kept;
    few = b.keeps.few;
    tasks = b.keeps.tasks;
    one_sends = b.keeps.one_sends;
    wanted = b.keeps.wanted;
    claims = b.keeps.claims;
    shorts = b.keeps.shorts;
    volatile = b.keeps.volatile;
  };
  answered =
      still_answered v (none_wait v region) v.tasks (kept_stays v.translation v.translation v.tasks refl refl) refl
      b.answered;
  told = b.told;
  shorts_told = b.shorts_told;
}
  where
    its : Machine
    its = with_none_waiting (machine_at e.rpmb region)

module _ (d : DeviceCore) (s : State) (r : Request) (h : Describes d s) (free : task_of r.tag s.tasks ≡ None)
    (few : length s.tasks < most_tasks) (after : Core) (region : ℕ) (there : region < regions) (n : ℕ)
    (short : n ≤ 4096) (same : has_other_response s (cdb.SecurityIn region n) ≡ false) where
  abbrev waiting : List ℕ
  waiting = waiting_in (s.registers region)

  -- so many bytes wait
  size_is : length waiting ≡ n
  size_is =
      joined_length (s.registers region).response (h.waits.registers_hold region).response
      ∙ sym (eqb-true n (512 * length (s.registers region).response)
      (by (n == (512 * length (s.registers region).response)) same))
    where
      by : (b : Bool) → not b ≡ false → b ≡ true
      by true e = refl
      by false e = absurd (false≢true (sym e))

  fits_in : length waiting ≤ 4096
  fits_in = subst (λ (m : ℕ). m ≤ 4096) (sym size_is) short

  -- the task keeps them, with zeros behind them
  held_is : waiting_held (machine_at d.rpmb region) ≡ with_zeros waiting
  held_is =
      ap (λ (w : List ℕ). take (min (length w) 4096) w ++ drop (min (length w) 4096) zero_block)
      (ap waiting_in (sym (h.kept.registers region)))
      ∙ all_wait waiting fits_in

  abbrev emptied_core : DeviceCore → DeviceCore
  emptied_core e = record e { rpmb = none_waits d region }

  pub taken_opened : (p : Phase) → p ≡ held_phase n (min r.expected n) →
      IsLayerWith after s.translation (claims_of (numbers_of s) s.tasks) →
      IsBehind (handed_over (core_opened d r after p) (length (core_opened d r after p).tasks - 1) region)
      (frames_begun s r region n)
  taken_opened p phase_is layer =
      subst (λ (x : DeviceCore). IsBehind x (frames_begun s r region n))
      (sym (ap emptied_core (last_held d r after p (waiting_held (machine_at d.rpmb region))
      ∙ (λ i. core_keeping d r after (phase_is i) (held_is i)))))
      (emptied (core_keeping d r after (held_phase n (min r.expected n)) (with_zeros waiting))
      (data_begun s r (cdb.SecurityIn region n) waiting) region there
      (held_begins d s r h free few after (cdb.SecurityIn region n) waiting waiting n fits_in
      (take_all n waiting (omega (arith, size_is))) size_is refl layer))
