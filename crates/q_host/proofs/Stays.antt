-- Calls that change nothing, one after another, and none.
use Rattle.std.proofs.Common.{refl, ◌∙◌}
use Rattle.q_host.specs.Calls.{Stays}
use Rattle.q_host.specs.Steps.{Stay}
use Rattle.q_host.specs.View.{View}
use Rattle.q_host.proofs.Moments.{goes_again, goes_nowhere}

pub stays_on : (u v w : View) → Stays u v → Stays v w → Stays u w
stays_on u v w p q = record {
  files = q.files ∙ p.files;
  told = q.told ∙ p.told;
  goes = goes_again Stay p.goes q.goes (λ x y z first second. second ∙ first) (λ x y h. h) (λ x y h. h);
}

pub stays_here : (v : View) → Stays v v
stays_here v = record { files = refl; told = refl; goes = goes_nowhere Stay Stay v (λ x. refl) }
