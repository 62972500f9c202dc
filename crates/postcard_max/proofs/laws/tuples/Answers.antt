-- Long tuples: the sum is that of the definition, and each part reaches its size.
use Rattle.std.proofs.Common.{refl}
use Rattle.postcard_max.proofs.laws.tuples.Goals as goal

pub returns-clause-tuple_of_eight : goal.returns-clause-tuple_of_eight
returns-clause-tuple_of_eight g c = (refl, λ (a, b, d, e, f, h, i, j). (a, (b, (d, (e, (f, (h, (i, (j, tt)))))))))

pub returns-clause-tuple_of_nine : goal.returns-clause-tuple_of_nine
returns-clause-tuple_of_nine g c = (refl, λ (a, b, d, e, f, h, i, j, k). (a, (b, (d, (e, (f, (h, (i, (j, (k, tt))))))))))

pub returns-clause-tuple_of_ten : goal.returns-clause-tuple_of_ten
returns-clause-tuple_of_ten g c = (refl, λ (a, b, d, e, f, h, i, j, k, l). (a, (b, (d, (e, (f, (h, (i, (j, (k, (l, tt)))))))))))

pub returns-clause-tuple_of_eleven : goal.returns-clause-tuple_of_eleven
returns-clause-tuple_of_eleven g c = (refl, λ (a, b, d, e, f, h, i, j, k, l, m). (a, (b, (d, (e, (f, (h, (i, (j, (k, (l, (m, tt))))))))))))

pub returns-clause-tuple_of_twelve : goal.returns-clause-tuple_of_twelve
returns-clause-tuple_of_twelve g c = (refl, λ (a, b, d, e, f, h, i, j, k, l, m, n). (a, (b, (d, (e, (f, (h, (i, (j, (k, (l, (m, (n, tt)))))))))))))
