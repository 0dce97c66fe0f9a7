-- What a query asks, in the words of the definitions.
use Rattle.std.specs.Prelude.{◌≡◌}
use Rattle.descriptors.specs.declared.queries.QueryRequest.{QueryRequest}
use Rattle.descriptors.specs.declared.queries.QuerySettings.{QuerySettings}
use Rattle.ufs_spec.specs.Plain.{Plain}
use Rattle.ufs_spec.specs.Queries.{Query}

-- the same query, from its form in code
abbrev pub query_of : QueryRequest → Query
query_of request =
    record { function = request.function; asked = request.asked; length = request.length; value = request.value }

-- a plain state has these settings
pub record HasSettings (settings : QuerySettings) (p : Plain) : Type 0 where
  pub boot : p.boot ≡ settings.boot
  pub permanent : p.permanent ≡ settings.is_permanent
