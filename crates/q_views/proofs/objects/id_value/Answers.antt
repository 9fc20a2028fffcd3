use Rattle.std.proofs.Common.{subst, sym}
use Rattle.std.specs.Str.{IsAscii}
use Rattle.q_views.proofs.AsciiLaws.{name_ascii}
use Rattle.q_views.proofs.objects.id_value.Goals as goal

pub text_of-requires : goal.text_of-requires
text_of-requires c = subst IsAscii (sym c.bytes.ensures.same) (name_ascii c.id_name-name.result c.bytes.ensures.form)
