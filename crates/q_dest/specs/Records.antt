-- How large the numbers of a site's record may be.
use Rattle.std.specs.Prelude.{◌≡◌, ◌≤◌, ◌^◌, true}
use Rattle.q_model.specs.SiteRecords.{is_alive}
use Rattle.q_model.specs.Values.{SiteRecord}

-- its feedback and its failed cohorts, and these further where mail may be sent there
abbrev pub IsBounded : SiteRecord → Type 0
IsBounded r = (r.success ≤ 2 ^ 64) × (r.failure ≤ 2 ^ 64) × (r.cohorts ≤ 2 ^ 64)
    × (is_alive r.health ≡ true → r.cohorts ≤ 2 ^ 63)
