mod Greatest
