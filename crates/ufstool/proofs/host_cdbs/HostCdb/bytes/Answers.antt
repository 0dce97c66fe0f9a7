use Rattle.std.proofs.Common.{ap, refl, ◌≡◌, ◌∙◌}
use Rattle.ufs_spec.specs.Cdbs.{cdb_bytes}
use Rattle.ufstool.specs.HostCdbs.{host_bytes, meaning}
use Rattle.ufstool.specs.declared.host_cdbs.HostCdb.{HostCdb}
use Rattle.ufstool.specs.declared.host_cdbs.HostCdb.TheVariants as host
use Rattle.ufstool.proofs.host_cdbs.HostCdb.bytes.Goals as goal

-- each form without an arm of its own has the bytes of what it means
pub returns-in_default : goal.returns-in_default
returns-in_default c = c.bytes_of.ensures ∙ ap cdb_bytes c.meaning.ensures.is ∙ plain c.args.self refl
  where
    plain : (h : HostCdb) → c.args.self ≡ h → cdb_bytes (meaning h) ≡ host_bytes h
    plain (host.Read6 address blocks) e = absurd (c.in_default.not-Read6 address blocks e)
    plain (host.Write6 address blocks) e = absurd (c.in_default.not-Write6 address blocks e)
    plain (host.Read10 address blocks forced) e = absurd (c.in_default.not-Read10 address blocks forced e)
    plain (host.ReportLuns select allocation) e = absurd (c.in_default.not-ReportLuns select allocation e)
    plain (host.ModeSense6 select allocation) e = absurd (c.in_default.not-ModeSense6 select allocation e)
    plain (host.ModeSense10 select allocation) e = absurd (c.in_default.not-ModeSense10 select allocation e)
    plain (host.ReportOperations select allocation) e = absurd (c.in_default.not-ReportOperations select allocation e)
    plain host.TestUnitReady e = refl
    plain (host.RequestSense allocation) e = refl
    plain (host.Inquiry allocation) e = refl
    plain host.ReadCapacity10 e = refl
    plain (host.SynchronizeCache10 immediate) e = refl
    plain (host.Write10 address blocks forced) e = refl
    plain (host.InquiryPage page allocation) e = refl
    plain (host.ReadCapacity16 allocation) e = refl
    plain (host.Verify10 address blocks compared) e = refl
    plain (host.Prefetch10 address blocks) e = refl
    plain (host.SendDiagnostic tests) e = refl
