-- A SECURITY PROTOCOL IN begins: it takes the frames that wait.
use Rattle.device.proofs.Common.{Core, Describes, DeviceCore, None, Ok, Phase, Plan, Request, Result, State, Status}
use Rattle.device.proofs.Common.{false, has_other_response, length, most_tasks, not, regions, task_of, ℕ, ◌<◌, ◌≡◌}
use Rattle.ufs_spec.specs.Begins.{frames_begun}
use Rattle.ufs_spec.specs.Refusals.{is_frames}
use Rattle.ufs_spec.specs.declared.scsi.Cdb.TheVariants as cdb
use Rattle.device.specs.Plans.{send_plan}
use Rattle.device.specs.declared.plans.Source.TheVariants as source
use Rattle.device.proofs.described.Answered.{IsBehind}
use Rattle.device.proofs.host_messages.FramesTaken.{taken_opened}
use Rattle.device.proofs.host_messages.GathersBegin.{frames_few}
use Rattle.device.proofs.host_messages.TasksBegin.{HasBegunFor, opened_for}

module _ (d : DeviceCore) (s : State) (r : Request) (h : Describes d s) (free : task_of r.tag s.tasks ≡ None)
    (few : length s.tasks < most_tasks) (after : Core) where
  abbrev Begins : Result Plan Status → Phase → Type 0
  Begins todo p = HasBegunFor s r after todo p

  abbrev Opens : Result Plan Status → Phase → State → Type 0
  Opens todo p v = IsBehind (opened_for d r after todo p) v

  pub taken_begins : (region n : ℕ) (p : Phase) → region < regions →
      has_other_response s (cdb.SecurityIn region n) ≡ false → not (is_frames n) ≡ false →
      Begins (Ok (send_plan r.expected (source.Response region) n)) p →
      Opens (Ok (send_plan r.expected (source.Response region) n)) p (frames_begun s r region n)
  taken_begins region n p there same long begun =
      taken_opened d s r h free few after region there n (frames_few d s r h free few after n long).1 same p begun.0 begun.1
