use Rattle.q_model.proofs.id_text.+append_decimals.Given as goal

abbrev pub decreases-append_decimals : goal.decreases-append_decimals
decreases-append_decimals l = l.count
