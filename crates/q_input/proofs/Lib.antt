mod IdLineLaws
